pub mod JobLaws
pub mod AddedResidues
pub mod PartLaws
pub mod Orders
pub mod Together
pub mod Shared
