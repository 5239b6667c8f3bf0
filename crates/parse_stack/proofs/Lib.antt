pub mod Heads
pub mod Fits
