pub mod Steps
pub mod Apart
