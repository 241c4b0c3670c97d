pub mod WayLemmas
pub mod ProcessLemmas
pub mod CheckLemmas
pub mod PlaceLemmas
pub mod CloseLemmas
