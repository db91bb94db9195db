pub mod Hands
pub mod Moves
pub mod LoneRuns
pub mod Working
