pub mod Chance
pub mod Answer
