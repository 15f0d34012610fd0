pub mod ImagePages
pub mod Keeping
pub mod Posts
pub mod Reading
