pub mod Moved
pub mod Moving
pub mod Emptying
