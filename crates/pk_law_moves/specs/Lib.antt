pub mod Moves
pub mod Victims
