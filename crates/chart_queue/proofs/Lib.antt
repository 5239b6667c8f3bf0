-- The tests of the queue: places, prices, tags.
pub mod Least
