pub mod Compared
pub mod Joined
