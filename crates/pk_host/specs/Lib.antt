pub mod Port
pub mod Calls
pub mod Listing
pub mod Received
pub mod TookLaws
pub mod Good
pub mod Outcomes
