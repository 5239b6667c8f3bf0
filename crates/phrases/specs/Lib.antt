pub mod Phrases
pub mod Enumeration
pub mod Recursion
pub mod Padded
pub mod Numbers
