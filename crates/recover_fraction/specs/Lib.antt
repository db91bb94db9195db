pub mod Agreement
pub mod CommonResidues
