pub mod TransLemmas
pub mod ToldLoop
