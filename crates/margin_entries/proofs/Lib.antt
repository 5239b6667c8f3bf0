pub mod Steps
pub mod Carried
pub mod Insertion
