pub mod Members
pub mod Ranges
pub mod Digits
pub mod Binomials
pub mod Padding
