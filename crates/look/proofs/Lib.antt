mod Terms
pub mod Streams
pub mod Completing
pub mod States
pub mod Cases
