-- Seeds as numbers.
pub mod Heights
pub mod Seeds
