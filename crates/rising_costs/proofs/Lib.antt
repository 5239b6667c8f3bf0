pub mod Rise
pub mod Raise
pub mod Flat
