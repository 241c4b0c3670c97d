pub mod InsideLemmas
pub mod Leading
pub mod ConfigLemmas
pub mod SplitLemmas
pub mod StepLemmas
