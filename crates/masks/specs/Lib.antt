-- Masks as digits.
pub mod Digits
