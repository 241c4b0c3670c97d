pub mod First
pub mod Form
pub mod Trees
pub mod Views
