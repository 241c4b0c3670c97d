pub mod FileLemmas
pub mod LimitLemmas
pub mod RepeatLemmas
pub mod JoinLemmas
