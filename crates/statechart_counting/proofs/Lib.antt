pub mod CounterLemmas
pub mod StateLemmas
