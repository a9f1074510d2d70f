mod Terms
pub mod Planning
pub mod Reaching
