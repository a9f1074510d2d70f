mod Terms
pub mod Laws
