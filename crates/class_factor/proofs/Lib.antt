pub mod OtherClasses
pub mod SectionTerms
pub mod Values
