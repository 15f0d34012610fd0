pub mod Cuts
pub mod Leases
pub mod Indexes
