mod Terms
pub mod Moving
pub mod Verdicts
