-- Back pointers and keys.
pub mod Keys
