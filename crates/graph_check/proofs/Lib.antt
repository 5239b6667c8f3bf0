pub mod Edges
pub mod Steps
pub mod Kept
