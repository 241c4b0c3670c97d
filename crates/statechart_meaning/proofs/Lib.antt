pub mod ListLemmas
pub mod PlainLemmas
pub mod JoinedLemmas
