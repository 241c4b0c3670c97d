pub mod Results
pub mod Folded
pub mod Views
pub mod Checked
