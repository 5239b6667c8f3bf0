-- The trace of a cell, the parts that are pending, and the shape of a trace; the leaf of any edge, what a rank of a cell spells, and the weights
-- to come.
pub mod Trace
pub mod RightParts
pub mod Pending
pub mod Shape
pub mod Leaf
pub mod Spelled
pub mod Weighing
