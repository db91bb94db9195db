pub mod EdgeLists
pub mod Correspondence
pub mod WordFields
pub mod PairsFields
