pub mod Hash
pub mod Homes
