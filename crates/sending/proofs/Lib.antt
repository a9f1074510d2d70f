mod Terms
pub mod Putting
pub mod Deciding
pub mod Leaving
pub mod Headers
