-- The classes of an index.
pub mod Classes
