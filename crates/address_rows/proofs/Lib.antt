mod Terms
pub mod Rows
pub mod Putting
