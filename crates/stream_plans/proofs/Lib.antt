mod Terms
pub mod Planning
