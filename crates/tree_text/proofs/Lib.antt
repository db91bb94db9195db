pub mod Written
pub mod Taken
pub mod Runs
pub mod Endings
pub mod Readings
pub mod Lengths
pub mod Trees
pub mod Refused
mod Worked
