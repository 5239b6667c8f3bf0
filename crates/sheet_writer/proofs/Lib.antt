pub mod Back
pub mod Block
