mod Terms
pub mod Reading
pub mod Tables
pub mod Writers
