-- The judgement on a reading.
pub mod Weighed
