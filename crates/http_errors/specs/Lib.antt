pub mod Ties
pub mod Translation
pub mod Claims
pub mod Cases
