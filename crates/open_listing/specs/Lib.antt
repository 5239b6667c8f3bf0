pub mod Stands
pub mod Open
pub mod Model
