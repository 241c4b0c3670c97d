pub mod Parts
pub mod FileShapes
