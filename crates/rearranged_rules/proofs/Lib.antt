pub mod Ranks
pub mod Renumber
pub mod Theorems
pub mod Held
pub mod Examples
