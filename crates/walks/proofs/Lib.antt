pub mod Words
pub mod Impossible
