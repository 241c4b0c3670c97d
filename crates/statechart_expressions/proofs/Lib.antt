pub mod CounterLemmas
pub mod CallLemmas
pub mod Sizes
