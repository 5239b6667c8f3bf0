pub mod Marks
pub mod Blocks
pub mod Refused
pub mod Examples
