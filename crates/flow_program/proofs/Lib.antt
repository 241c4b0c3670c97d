pub mod ChartTextLemmas
pub mod TraceLines
pub mod MeasureLemmas
pub mod SelftestLemmas
pub mod UsageLemmas
pub mod OthersLemmas
