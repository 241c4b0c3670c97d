pub mod PureCopies
