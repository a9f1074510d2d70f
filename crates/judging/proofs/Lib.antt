mod Terms
pub mod Deciding
pub mod Answers
pub mod Rules
