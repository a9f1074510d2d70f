mod Terms
pub mod Numbers
pub mod Reading
pub mod Forms
pub mod Encoding
pub mod Leaving
pub mod Parts
pub mod Identifiers
