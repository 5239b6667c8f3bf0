pub mod Arrays
pub mod Steps
