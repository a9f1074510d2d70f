pub mod FastPaths
pub mod Claims
