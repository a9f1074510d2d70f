pub mod Reader
pub mod ShortWords
