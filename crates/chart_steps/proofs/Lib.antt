pub mod Saved
pub mod Written
pub mod Undo
pub mod Bounds
pub mod Trees
pub mod Added
pub mod Kept
