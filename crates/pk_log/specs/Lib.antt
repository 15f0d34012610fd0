pub mod State
pub mod Logs
pub mod Commits
pub mod FreezeSteps
pub mod MergeSteps
pub mod Finishing
pub mod Laws
