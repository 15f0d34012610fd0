pub mod Blocks
pub mod Taking
pub mod Laws
pub mod Unready
pub mod Leaving
