pub mod MergedFollows
pub mod MergedSound
pub mod MergedMeasured
pub mod MergedResults
pub mod MergedWhole
pub mod OwnNumbers
