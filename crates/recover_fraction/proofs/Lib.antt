pub mod Multiples
pub mod SignedResidues
pub mod EuclidSteps
pub mod OnlyPair
pub mod Stops
pub mod CoprimeProducts
pub mod Garner
