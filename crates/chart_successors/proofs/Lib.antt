-- What follows one has a split.
pub mod Initial
