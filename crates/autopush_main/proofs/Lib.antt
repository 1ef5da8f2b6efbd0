pub mod Flow
pub mod Causes
mod LfLaws
pub mod LineLaws
mod TurnLaws
mod Progress
