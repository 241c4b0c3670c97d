pub mod DataLemmas
pub mod EngineLemmas
