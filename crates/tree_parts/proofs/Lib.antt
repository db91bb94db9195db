pub mod DecoratedParts
pub mod Edgewise
pub mod EndLists
pub mod Making
pub mod MarkLists
pub mod Shaped
