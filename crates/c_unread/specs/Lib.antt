pub mod Live
pub mod Unread
pub mod Views
