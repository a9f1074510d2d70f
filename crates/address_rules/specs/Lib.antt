pub mod Pass
pub mod Places
pub mod Claims
