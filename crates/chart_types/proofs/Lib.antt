pub mod NameLemmas
pub mod FaultLemmas
pub mod LiteralLemmas
pub mod SortLemmas
