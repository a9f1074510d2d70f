mod Terms
pub mod Cases
pub mod Runs
pub mod Bits
pub mod Lists
pub mod Reading
pub mod Encoding
pub mod ReadBack
pub mod Judging
