-- Keys, cells and entries, and what a store changes in a table.
pub mod Keys
pub mod Cells
pub mod Entries
pub mod Numbers
pub mod Cleared
