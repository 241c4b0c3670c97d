pub mod Words
pub mod Symbols
pub mod Comments
pub mod Lex
