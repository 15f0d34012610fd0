pub mod Puts
pub mod Places
pub mod Journals
pub mod Appending
pub mod Halving
pub mod Replaying
