pub mod GatherLemmas
pub mod HasLemmas
pub mod CollectLemmas
