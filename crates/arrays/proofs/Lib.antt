pub mod Stored
pub mod Zeros
