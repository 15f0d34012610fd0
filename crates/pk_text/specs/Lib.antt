pub mod Written
pub mod Assembled
pub mod Records
pub mod Turns
pub mod Steps
