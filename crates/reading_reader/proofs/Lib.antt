pub mod Reading
pub mod BlockInversion
