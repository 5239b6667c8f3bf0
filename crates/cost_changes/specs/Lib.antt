pub mod Costs
pub mod Ranges
pub mod Passes
pub mod Margins
pub mod Outside
pub mod Listed
