pub mod Least
pub mod PartLists
pub mod RoundLaws
