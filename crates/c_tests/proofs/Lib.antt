pub mod CheckLemmas
pub mod ModeLemmas
