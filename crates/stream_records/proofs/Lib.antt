mod Terms
pub mod Flags
pub mod Places
pub mod Goodness
pub mod Tabled
pub mod Decisions
pub mod Openings
pub mod Closings
pub mod Standings
pub mod Cases
