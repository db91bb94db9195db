mod Answers
pub mod BuiltToday
pub mod Consequences
mod Names
mod Rules
pub mod Sound
pub mod Within
mod Worked
