pub mod Log
pub mod Work
pub mod Rules
pub mod Reactions
pub mod Tells
pub mod Times
pub mod Assigned
pub mod Runs
