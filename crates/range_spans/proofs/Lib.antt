pub mod Guesses
pub mod Narrowing
pub mod BoxLemmas
pub mod LookLemmas
pub mod SameLemmas
