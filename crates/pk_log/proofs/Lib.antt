pub mod Standing
pub mod Pushing
pub mod Committing
pub mod Buffers
pub mod FreezeStepping
pub mod Merging
pub mod Saying
pub mod Examples
