pub mod Steps
pub mod Marked
pub mod Collected
pub mod PassListed
pub mod WaysOut
pub mod Refused
