pub mod Index
pub mod Steps
pub mod Exchanges
pub mod Sources
