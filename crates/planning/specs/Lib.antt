pub mod Plans
pub mod Headers
pub mod Reaching
