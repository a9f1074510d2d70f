pub mod Bytes
pub mod Varint
pub mod Long
pub mod Writing
pub mod Partial
pub mod Units
pub mod Claims
