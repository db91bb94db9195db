pub mod Usages
pub mod Words
pub mod Taken
pub mod Rows
pub mod Clap
pub mod Told
