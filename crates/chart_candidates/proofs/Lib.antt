-- Loops from a place on, and the splits one behind another.
pub mod Loops
pub mod Splits
pub mod PassedOver
