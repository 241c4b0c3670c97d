pub mod StateLemmas
pub mod DatumLemmas
