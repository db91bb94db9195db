pub mod Powers
pub mod Vertices
