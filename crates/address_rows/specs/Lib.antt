pub mod Rows
pub mod Putting
