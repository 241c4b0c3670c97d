pub mod LocalLemmas
pub mod SortLemmas
pub mod LeafLemmas
pub mod Composed
pub mod Steps
pub mod StoreLemmas
pub mod FaultLemmas
