pub mod Alike
pub mod Differences
pub mod Cross
pub mod CrossParts
pub mod Jobs
pub mod JobFields
pub mod Found
pub mod Totals
