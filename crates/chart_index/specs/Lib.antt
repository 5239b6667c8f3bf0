-- The index of rules and edges.
pub mod Index
pub mod Build
pub mod Chains
