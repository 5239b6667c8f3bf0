-- The masks cover the table.
pub mod Covering
