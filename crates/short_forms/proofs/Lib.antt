mod Terms
pub mod Short
