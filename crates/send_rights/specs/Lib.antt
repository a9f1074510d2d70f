pub mod Rights
pub mod Code
