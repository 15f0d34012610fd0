pub mod Replying
pub mod Paging
pub mod Composing
