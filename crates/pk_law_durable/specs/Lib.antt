pub mod DurableRuns
