mod Resting
pub mod Keeping
pub mod Telling
mod Posting
mod Piecing
mod Lists
mod Counting
pub mod Opening
mod Grouping
mod Generating
