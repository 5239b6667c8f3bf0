pub mod WaysOut
pub mod Digits
pub mod Cells
pub mod Parts
pub mod Right
pub mod Found
pub mod Least
