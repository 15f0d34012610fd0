pub mod Fronts
pub mod Programs
pub mod Readings
pub mod ErasedBlocks
