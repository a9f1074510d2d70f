pub mod Varint
pub mod Table
pub mod Sight
pub mod Claims
pub mod Told
pub mod Cases
