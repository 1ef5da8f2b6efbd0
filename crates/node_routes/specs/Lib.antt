pub mod Links
pub mod Posts
pub mod Routes
pub mod Failing
