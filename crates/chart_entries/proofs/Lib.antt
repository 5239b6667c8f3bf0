-- The store of a key, and the first rank that is not found.
pub mod Keys
pub mod Missing
