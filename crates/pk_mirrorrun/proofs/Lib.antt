pub mod Commands
pub mod PairTelling
pub mod Lending
pub mod Unworn
