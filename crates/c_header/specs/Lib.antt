pub mod Paths
pub mod Fields
pub mod Header
pub mod Identity
pub mod Scope
pub mod Struct
