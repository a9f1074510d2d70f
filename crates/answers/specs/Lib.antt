pub mod Numbers
pub mod Varint
pub mod OneShot
pub mod AddressCapsules
pub mod Messages
pub mod Identifiers
