mod Terms
pub mod Apart
pub mod Decimals
pub mod Placing
pub mod Samples
