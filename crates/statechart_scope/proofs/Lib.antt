pub mod StateViews
pub mod NameLemmas
