pub mod Numbers
pub mod Candidates
pub mod Slots
