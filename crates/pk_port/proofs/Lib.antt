pub mod Isolating
pub mod Serving
pub mod Stepping
pub mod Lifting
pub mod Growing
pub mod Chaining
