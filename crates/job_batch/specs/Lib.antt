pub mod Batch
pub mod Seats
pub mod Ends
pub mod Workers
