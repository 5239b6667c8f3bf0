pub mod PassesAnswer
pub mod ThreePasses
pub mod WaysOut
pub mod Refused
