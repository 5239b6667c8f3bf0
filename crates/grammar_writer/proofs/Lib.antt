pub mod Rules
pub mod Rule
pub mod Marks
