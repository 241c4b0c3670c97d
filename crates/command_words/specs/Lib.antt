pub mod Numbers
pub mod Commands
pub mod Options
pub mod Reading
pub mod Words
pub mod Seen
pub mod Parser
pub mod Asked
