pub mod Orders
pub mod Claims
