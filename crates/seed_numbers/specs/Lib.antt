-- Seeds as numbers.
pub mod Seeds
