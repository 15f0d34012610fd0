pub mod Freezing
pub mod Steps
pub mod Installing
pub mod FreezeSteps
pub mod Merging
pub mod Laws
