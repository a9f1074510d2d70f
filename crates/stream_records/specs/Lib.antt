pub mod Records
pub mod Tables
pub mod Words
pub mod Claims
pub mod Cases
