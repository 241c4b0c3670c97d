pub mod RankLemmas
pub mod NoteLemmas
pub mod ChildLemmas
