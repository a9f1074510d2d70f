mod Terms
pub mod Writing
pub mod Capsules
pub mod ReadBack
pub mod Answers
pub mod Cases
pub mod Counting
pub mod Conditions
