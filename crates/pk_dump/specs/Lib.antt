pub mod Pages
pub mod Holds
pub mod Readings
pub mod Uses
pub mod Named
pub mod Findings
