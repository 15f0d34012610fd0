pub mod Bytes
pub mod Log
pub mod Steps
pub mod Record
pub mod Image
pub mod Kept
