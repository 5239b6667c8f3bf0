-- Masks of places and of heads.
pub mod Masks
