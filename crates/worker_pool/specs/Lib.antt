pub mod Rounds
pub mod Loops
pub mod Shares
pub mod Marks
