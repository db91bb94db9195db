pub mod ProblemTrees
pub mod BadTrees
pub mod SumIndices
pub mod RangeLaws
pub mod BlockLaws
