mod Arrays
mod Documents
mod IntegralArrays
mod KeyLaws
mod ModulusLists
mod ProblemLaws
mod TermArrays
mod Texts
pub mod Inserts
pub mod Rereading
pub mod GeneratedRules
