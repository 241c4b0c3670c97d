pub mod Placed
pub mod Scopes
pub mod Meanings
pub mod Tables
pub mod Survey
