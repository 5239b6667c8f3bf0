-- The next rank of a cell.
pub mod Ranks
