pub mod Increasing
pub mod Insertions
pub mod Leaves
pub mod DegreeCounts
pub mod Trees
pub mod Decoding
pub mod Encoding
