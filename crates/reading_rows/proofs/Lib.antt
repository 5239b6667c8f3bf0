pub mod Says
pub mod Unmarked
pub mod Walks
pub mod Rows
pub mod Theorems
