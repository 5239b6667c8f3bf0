-- Masks of heads.
pub mod Heads
