pub mod Entries
pub mod Parts
pub mod Jobs
pub mod Listings
pub mod JobFields
