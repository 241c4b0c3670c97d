pub mod CaseLemmas
pub mod TurnLemmas
