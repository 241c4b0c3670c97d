pub mod PieceLemmas
pub mod JoinLemmas
pub mod PutLemmas
pub mod PathLemmas
pub mod StateLemmas
pub mod DataLemmas
