pub mod Judgement
pub mod Check
pub mod Run
