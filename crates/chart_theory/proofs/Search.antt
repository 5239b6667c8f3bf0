-- A row written, tags, the next rank of a cell, next of span, the passes, the back trace, and the one that checks.
pub mod NewRow
pub mod Tags
pub mod Ranks
pub mod NextOfSpan
pub mod Passes
pub mod Trace
pub mod Checked
