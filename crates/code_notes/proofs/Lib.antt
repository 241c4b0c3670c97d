pub mod Pending
pub mod Places
pub mod Lockstep
pub mod Whole
pub mod Facts
pub mod CheckLemmas
pub mod MadeLemmas
