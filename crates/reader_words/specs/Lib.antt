pub mod Numbers
pub mod Words
pub mod Position
pub mod Claims
