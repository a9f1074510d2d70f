pub mod Looking
pub mod Claims
pub mod Cases
