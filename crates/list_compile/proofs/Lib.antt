pub mod Spreads
pub mod TableTurns
pub mod EndTurns
pub mod Limits
pub mod SearchTurns
pub mod FrontLemmas
