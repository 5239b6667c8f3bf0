-- Tags of queued candidates.
pub mod Tags
