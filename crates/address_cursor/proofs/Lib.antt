mod Terms
pub mod Cases
pub mod Stepping
pub mod Handing
