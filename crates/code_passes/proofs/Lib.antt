pub mod TagLemmas
pub mod PassedLemmas
