pub mod Digits
pub mod Strides
pub mod OneToOne
pub mod Words
pub mod Views
pub mod Moves
pub mod Keys
pub mod Refusals
pub mod InitialWords
pub mod Laws
mod Worked
