pub mod Lines
pub mod Says
pub mod Said
pub mod Listing
pub mod Question
