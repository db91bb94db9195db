pub mod Classes
pub mod Degrees
