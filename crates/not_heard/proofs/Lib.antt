pub mod Edges
pub mod Numbers
pub mod Theorems
