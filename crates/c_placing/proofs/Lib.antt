pub mod Base
pub mod Clearer
pub mod Doing
pub mod PlacedLemmas
pub mod Staying
