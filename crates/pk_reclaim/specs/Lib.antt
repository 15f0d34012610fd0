pub mod Hands
pub mod Values
pub mod Space
pub mod Steps
pub mod Laws
