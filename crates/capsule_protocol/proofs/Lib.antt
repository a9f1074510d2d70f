mod Terms
pub mod Joining
pub mod Firsts
pub mod Steps
pub mod Exactly
pub mod Items
pub mod Runs
pub mod Values
pub mod Absent
pub mod Cases
