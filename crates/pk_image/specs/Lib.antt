pub mod Header
pub mod Image
