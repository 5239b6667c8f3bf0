pub mod Ranked
pub mod Model
