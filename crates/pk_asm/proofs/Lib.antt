pub mod DigitLemmas
pub mod SplitLemmas
pub mod LineLemmas
pub mod PrintLemmas
pub mod TextLemmas
pub mod FormLemmas
pub mod ReadLemmas
pub mod PrintedLemmas
