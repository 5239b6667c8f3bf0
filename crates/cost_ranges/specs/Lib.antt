pub mod Conditions
pub mod CostRanges
pub mod Model
