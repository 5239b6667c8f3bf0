-- A table's front, and the table as it is enumerated.
pub mod Front
pub mod WorkTable
