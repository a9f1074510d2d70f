pub mod Addresses
pub mod Encoding
pub mod Sizes
pub mod Places
pub mod Claims
pub mod Cases
