mod Terms
pub mod Deciding
