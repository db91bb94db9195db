pub mod Members
pub mod Ranges
pub mod Different
pub mod Digits
pub mod Padding
