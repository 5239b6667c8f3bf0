-- Bounds of the layout, and neighbouring cells.
pub mod Cells
pub mod Places
