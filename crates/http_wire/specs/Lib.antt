pub mod HeadValue
pub mod Heads
pub mod Lines
pub mod Texts
pub mod Framings
pub mod Chunks
pub mod Requests
pub mod Replies
