-- The sizes of a table.
pub mod Sizes
