mod Terms
pub mod Cases
pub mod Deciding
pub mod Lookup
pub mod Table
