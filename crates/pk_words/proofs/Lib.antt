pub mod LineLemmas
pub mod SaidLemmas
pub mod ReportLemmas
pub mod RankLemmas
pub mod ListLemmas
