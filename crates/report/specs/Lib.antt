pub mod Outcome
pub mod Fractions
pub mod Texts
pub mod Statuses
pub mod Report
