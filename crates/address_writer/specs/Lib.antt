pub mod Writer
pub mod Claims
pub mod Cases
