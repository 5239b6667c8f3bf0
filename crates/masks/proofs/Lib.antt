-- Digits of masks.
pub mod Digits
