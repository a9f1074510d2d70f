pub mod Reader
pub mod Sight
