pub mod Programming
pub mod Placing
pub mod Noting
pub mod Changes
