mod Worked
pub mod Residues
pub mod Sums
pub mod Lines
pub mod Values
