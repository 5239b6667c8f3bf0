-- The candidates of a cell: their keys, the frontier, and what replaces the last found.
pub mod Select
pub mod Keys
pub mod Frontier
pub mod Replacement
