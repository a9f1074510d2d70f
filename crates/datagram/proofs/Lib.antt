mod Terms
pub mod RoundTrips
pub mod Refusals
