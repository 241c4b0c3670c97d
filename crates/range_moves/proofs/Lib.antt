pub mod MoveLemmas
pub mod ExitLemmas
pub mod EnterLemmas
pub mod TakeLemmas
