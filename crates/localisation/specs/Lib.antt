pub mod Weights
pub mod EdgeFraction
pub mod VertexFraction
pub mod ClassValue
pub mod Contribution
pub mod Agreement
