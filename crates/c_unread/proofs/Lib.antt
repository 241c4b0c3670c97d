pub mod LiveLemmas
pub mod Within
pub mod Keeping
pub mod Calling
