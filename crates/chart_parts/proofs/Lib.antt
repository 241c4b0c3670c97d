pub mod KeyLemmas
pub mod Turns
pub mod Within
pub mod TextLemmas
pub mod PlainLemmas
