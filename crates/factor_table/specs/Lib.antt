pub mod KeyPlaces
pub mod Factors
pub mod Rule
pub mod Seats
