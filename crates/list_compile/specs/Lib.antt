pub mod Drafts
pub mod Tables
pub mod NumberTables
pub mod Numberings
pub mod Searches
