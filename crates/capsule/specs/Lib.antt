pub mod Grammar
pub mod Calls
pub mod Book
pub mod State
pub mod Reader
pub mod Moves
