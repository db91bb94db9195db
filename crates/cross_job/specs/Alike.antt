-- Problems that are the same but for their weights.
use Rattle.std.specs.Prelude.{◌≡◌}
use Rattle.problem.specs.Rules.{ProblemView}
use Rattle.problem_toml.specs.declared.name.Name.{Name}
use Rattle.problem_toml.specs.declared.name.Name.TheVariants.{Rank, Degree, Marks, Moduli, NumeratorBound, DenominatorBound, Integral}

-- two problems agree in the part of a key; the weights and the keys inside of integrals are not compared
abbrev pub AgreeIn : Name → ProblemView → ProblemView → Type 0
AgreeIn Rank a b = a.shape.rank ≡ b.shape.rank
AgreeIn Degree a b = a.shape.degree ≡ b.shape.degree
AgreeIn Marks a b = a.shape.marks ≡ b.shape.marks
AgreeIn Moduli a b = a.moduli ≡ b.moduli
AgreeIn NumeratorBound a b = a.top_bound ≡ b.top_bound
AgreeIn DenominatorBound a b = a.bottom_bound ≡ b.bottom_bound
AgreeIn Integral a b = a.integrals ≡ b.integrals
AgreeIn _ a b = Unit {0}

-- two problems agree in all parts that are compared before that of a key
abbrev pub AgreeBefore : Name → ProblemView → ProblemView → Type 0
AgreeBefore Degree a b = AgreeIn Rank a b
AgreeBefore Marks a b = AgreeIn Rank a b × AgreeIn Degree a b
AgreeBefore Moduli a b = AgreeIn Rank a b × AgreeIn Degree a b × AgreeIn Marks a b
AgreeBefore NumeratorBound a b = AgreeIn Rank a b × AgreeIn Degree a b × AgreeIn Marks a b × AgreeIn Moduli a b
AgreeBefore DenominatorBound a b =
    AgreeIn Rank a b × AgreeIn Degree a b × AgreeIn Marks a b × AgreeIn Moduli a b × AgreeIn NumeratorBound a b
AgreeBefore Integral a b =
    AgreeIn Rank a b × AgreeIn Degree a b × AgreeIn Marks a b × AgreeIn Moduli a b × AgreeIn NumeratorBound a b
    × AgreeIn DenominatorBound a b
AgreeBefore _ a b = Unit {0}

-- the part of this key is the first in which two problems differ
pub record IsFirstDiffering (name : Name) (a b : ProblemView) : Type 0 where
  pub before : AgreeBefore name a b
  pub differ : ¬ AgreeIn name a b

-- two problems are the same but for their weights
pub record IsSameButWeights (a b : ProblemView) : Type 0 where
  pub rank : a.shape.rank ≡ b.shape.rank
  pub degree : a.shape.degree ≡ b.shape.degree
  pub marks : a.shape.marks ≡ b.shape.marks
  pub moduli : a.moduli ≡ b.moduli
  pub top_bound : a.top_bound ≡ b.top_bound
  pub bottom_bound : a.bottom_bound ≡ b.bottom_bound
  pub integrals : a.integrals ≡ b.integrals
