mod Terms
pub mod Runs
pub mod Order
pub mod Pairs
pub mod Search
pub mod Judging
