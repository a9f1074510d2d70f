mod Terms
pub mod FastPaths
pub mod Claims
