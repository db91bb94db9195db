pub mod Edges
pub mod Ends
pub mod EndsFields
pub mod Marks
pub mod MarksFields
pub mod Parts
pub mod PartsFields
pub mod Trees
