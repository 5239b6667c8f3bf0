pub mod Steps
pub mod Read
pub mod Accepted
pub mod Refusals
pub mod Marked
