pub mod CallLemmas
pub mod FrameLemmas
pub mod LendingLemmas
pub mod PlaceLemmas
pub mod StackLemmas
pub mod WalkLemmas
