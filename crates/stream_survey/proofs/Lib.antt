mod Terms
pub mod Buckets
pub mod Blanks
pub mod Surveying
