pub mod Steps
pub mod Ready
pub mod Laws
pub mod Asking
pub mod Chained
