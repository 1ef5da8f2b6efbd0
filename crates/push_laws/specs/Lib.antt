pub mod Sound
pub mod Headline
pub mod Pins
