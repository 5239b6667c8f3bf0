pub mod BlocksRead
pub mod Slots
pub mod Due
