-- The first rank of a cell, heads that are passed over, and the further ranks of the root.
pub mod Fuel
pub mod Heads
pub mod Further
