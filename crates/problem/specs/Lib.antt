pub mod Rules
pub mod Problems
pub mod Sums
