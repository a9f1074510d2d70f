pub mod Short
pub mod Claims
pub mod Cases
