pub mod ColourTerms
pub mod SignPowers
