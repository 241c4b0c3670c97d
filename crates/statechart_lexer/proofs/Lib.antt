pub mod Cuts
pub mod CommentEnds
pub mod Names
pub mod TokenNames
