pub mod Epochs
pub mod Appends
pub mod Replays
pub mod Laws
pub mod EpochReads
