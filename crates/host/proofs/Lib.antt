mod Terms
pub mod Refusals
