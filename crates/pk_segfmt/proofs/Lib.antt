pub mod HeadLemmas
pub mod PageLemmas
pub mod ValueLemmas
pub mod StoredLemmas
