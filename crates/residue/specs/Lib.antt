pub mod Answers
pub mod Limits
pub mod Montgomery
pub mod Ratios
