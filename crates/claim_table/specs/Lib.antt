pub mod Counts
pub mod Claims
pub mod Views
pub mod Cursor
pub mod Seats
