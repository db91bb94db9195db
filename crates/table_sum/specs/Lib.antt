pub mod Words
pub mod Ends
pub mod Trees
pub mod Classes
pub mod Numberings
pub mod Problems
pub mod Sums
