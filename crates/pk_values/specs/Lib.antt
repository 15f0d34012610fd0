pub mod State
pub mod Placed
pub mod Reserving
pub mod Entries
pub mod Laws
