-- Heads that are in the masks, and what the masks say of the others.
pub mod Members
