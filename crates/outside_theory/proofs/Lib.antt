pub mod Decoded
pub mod Source
pub mod Spans
pub mod Filled
