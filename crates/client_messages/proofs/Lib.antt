pub mod Nones
pub mod UpdateLemmas
pub mod Bare
pub mod Printable
