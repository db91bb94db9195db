pub mod Requests
pub mod Table
pub mod Asked
pub mod Given
pub mod Limits
