pub mod Listing
pub mod Cycle
pub mod Claims
pub mod Cases
