mod Args
pub mod Bools
pub mod Building
pub mod Consequences
mod Free
mod Items
pub mod Law
mod Matched
mod ReadNumbers
mod Rows
mod Said
mod Texts
mod Top
mod Lookups
mod Uses
pub mod Values
mod Passing
mod Told
mod Walks
