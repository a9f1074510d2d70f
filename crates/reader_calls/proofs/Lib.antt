mod Terms
pub mod ReaderCalls
mod ShortWords
