pub mod Stored
pub mod Counts
