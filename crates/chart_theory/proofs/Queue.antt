-- The queue of a cell: what its members follow, how it is arranged, and extract-min.
pub mod Numbers
pub mod Owners
pub mod Pool
pub mod Arranged
pub mod Stored
pub mod ExtractMin
