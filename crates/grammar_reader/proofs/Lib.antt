pub mod Grammars
pub mod BlockInversion
