pub mod Trace
pub mod Found
