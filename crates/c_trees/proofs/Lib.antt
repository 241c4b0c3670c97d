pub mod Lists
pub mod ReadLemmas
pub mod WriteLemmas
