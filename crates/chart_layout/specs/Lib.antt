-- The work table's layout.
pub mod Layout
