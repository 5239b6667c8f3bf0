pub mod Answer
pub mod Arrays
