mod ModulusLists
pub mod ProblemLaws
