-- The work table.
pub mod Table
