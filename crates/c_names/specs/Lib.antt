pub mod Reserved
pub mod Stems
