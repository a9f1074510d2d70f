mod Terms
pub mod Kinding
pub mod Lending
