pub mod Telling
pub mod Filling
pub mod PartLaws
pub mod Rounds
pub mod OneEntry
pub mod Sums
