pub mod Combining
pub mod SendLemmas
pub mod BlockLemmas
pub mod FiringLemmas
pub mod SearchLemmas
