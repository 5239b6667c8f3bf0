pub mod Grammars
pub mod Joined
