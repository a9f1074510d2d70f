mod Terms
pub mod Blanks
