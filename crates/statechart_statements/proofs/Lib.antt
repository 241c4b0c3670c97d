pub mod BlockLemmas
pub mod ValueLoop
pub mod CaseLoop
pub mod WordLoop
pub mod TargetLemmas
pub mod ActionLemmas
