pub mod FoundLemmas
pub mod DeclarationLemmas
pub mod StateViews
pub mod LoopLemmas
pub mod StateLemmas
pub mod OwnerLemmas
pub mod NameLemmas
