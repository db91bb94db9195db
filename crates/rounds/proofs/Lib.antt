pub mod RoundLaws
pub mod Summed
pub mod Running
pub mod ChainLaws
mod Worked
