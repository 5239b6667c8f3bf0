-- What the index's law and the proofs of its functions use.
pub mod Behind
pub mod Chains
pub mod Groups
pub mod Index
pub mod Members
pub mod Zeros
