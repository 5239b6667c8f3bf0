pub mod Taken
pub mod Reached
pub mod Fields
pub mod Keys
pub mod Filter
pub mod Turns
