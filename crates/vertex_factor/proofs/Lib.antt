pub mod EndLaws
pub mod Multinomials
pub mod PlainLaws
pub mod PsiLaws
