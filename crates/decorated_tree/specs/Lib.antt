pub mod Ranks
pub mod Shapes
pub mod NumberListFields
pub mod ShapeFields
pub mod Trees
pub mod Steps
pub mod Growth
pub mod Following
