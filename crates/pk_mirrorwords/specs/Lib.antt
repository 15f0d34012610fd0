pub mod PairTasks
pub mod PairAnswers
pub mod PairPages
