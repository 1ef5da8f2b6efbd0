pub mod Moves
pub mod Waits
pub mod Forms
pub mod Causes
pub mod Breaks
pub mod OutboxValue
pub mod Puts
pub mod Numbers
