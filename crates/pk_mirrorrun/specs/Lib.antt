pub mod PairTold
