-- The search.
pub mod Search
