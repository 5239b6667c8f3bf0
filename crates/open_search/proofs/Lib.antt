pub mod Zeros
pub mod Sought
pub mod Searched
pub mod Calls
