pub mod Isolation
pub mod Parts
pub mod Sums
