mod Terms
pub mod Rounds
pub mod Agreement
pub mod Cases
