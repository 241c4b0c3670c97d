pub mod WordLemmas
pub mod CondLemmas
pub mod InstrLemmas
pub mod StateLemmas
