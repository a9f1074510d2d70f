pub mod Sending
pub mod Claims
pub mod Code
