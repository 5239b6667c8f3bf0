pub mod Judged
pub mod Passed
pub mod Refused
pub mod Theorems
pub mod Answered
pub mod Runs
pub mod GraphExamples
