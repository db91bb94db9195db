pub mod Ends
pub mod EndSums
