-- Keys as numbers.
pub mod Numbers
