mod Terms
pub mod Keeping
pub mod Throughout
pub mod Entries
pub mod Payloads
pub mod Nonzero
pub mod TableCalls
pub mod Cases
pub mod Told
