pub mod Loops
pub mod Exact
pub mod Ends
pub mod Growth
