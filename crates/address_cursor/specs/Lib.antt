pub mod Handing
pub mod Claims
pub mod Cases
