pub mod LoopLemmas
pub mod TableLemmas
pub mod ScopeLemmas
pub mod TreeLemmas
pub mod SurveyLemmas
pub mod JunctionLemmas
pub mod ShapeLemmas
pub mod MakeLemmas
