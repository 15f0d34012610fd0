pub mod Numbers
pub mod Homes
