pub mod ExponentBounds
pub mod TermSums
