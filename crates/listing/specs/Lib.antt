pub mod Conditions
pub mod Listing
pub mod Demand3
pub mod Model
