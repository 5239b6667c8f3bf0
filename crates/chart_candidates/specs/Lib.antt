-- Leaves and seeds.
pub mod Candidates
pub mod PassedOver
