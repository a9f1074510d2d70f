pub mod Errors
pub mod Messages
pub mod Settings
pub mod Claims
