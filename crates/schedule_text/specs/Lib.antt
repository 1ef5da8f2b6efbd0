pub mod Words
pub mod Spelling
pub mod Replies
pub mod Reading
pub mod Kinds
pub mod Wrongs
