pub mod Connections
pub mod Claims
