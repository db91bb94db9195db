pub mod Residues
pub mod Values
pub mod Texts
pub mod Ranges
