pub mod Error
pub mod Shares
pub mod Shown
