mod Terms
pub mod Noting
pub mod Feedings
