pub mod States
pub mod Sharing
pub mod Fitting
pub mod Counting
pub mod Leaving
