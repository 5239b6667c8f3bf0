-- The back trace, the one that checks, and the parts that are still to be traced.
pub mod Trace
pub mod Checked
pub mod RightParts
