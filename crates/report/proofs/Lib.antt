pub mod LowestTerms
pub mod Integrals
pub mod Sums
