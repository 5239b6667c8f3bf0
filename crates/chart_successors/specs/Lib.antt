-- What is met with a rank found.
pub mod Successors
