-- The checked trace of the root.
pub mod Checked
