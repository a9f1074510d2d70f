mod Terms
pub mod Lowest
pub mod Meeting
