pub mod Heads
pub mod Orders
pub mod Steps
pub mod Visible
pub mod Walking
