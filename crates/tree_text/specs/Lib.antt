pub mod Grammar
pub mod Refusals
pub mod ListFields
pub mod Steps
