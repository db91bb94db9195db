-- What a problem is, and the rules that it keeps.
use Rattle.std.specs.Prelude.{◌≡◌, ℕ, ◌+◌, ◌-◌, ◌*◌, ◌^◌, ◌<◌, ◌≤◌, ℤ, unsigned_abs, List, [], ◌∷◌, length, sum_by, All, true}
use Rattle.trees.specs.Decorated.{TreeShape}
use Rattle.trees.specs.TreeNumbers.{tree_count}
use Rattle.lists.specs.Digits.{product_of}
use Rattle.decorated_tree.specs.Shapes.{within_limits}
use Rattle.classes.specs.Classes.{IsClassFor}
use Rattle.classes.specs.Degrees.{class_degree}
use Rattle.residue.specs.Limits.{IsModulus, AreWeights}
use Rattle.arithmetic.specs.Agreement.{ArePairwiseCoprime}
use Rattle.classes.specs.declared.class.Power.{Power}
use Rattle.classes.specs.declared.class.Term.{Term}

-- what a problem is, without the rules that it keeps
pub record ProblemView : Type 0 where
  pub shape : TreeShape
  pub weights : List ℤ
  pub moduli : List ℕ
  pub top_bound : ℕ
  pub bottom_bound : ℕ
  pub integrals : List (List Term)

-- the problem of these parts
abbrev pub problem_of_parts : TreeShape → List ℤ → List ℕ → ℕ → ℕ → List (List Term) → ProblemView
problem_of_parts shape weights moduli top bottom integrals =
    record { shape = shape; weights = weights; moduli = moduli; top_bound = top; bottom_bound = bottom; integrals = integrals }

-- the dimension (r + 1) d + r - 3 + m of the space of stable maps of degree d with m marks to the projective space of dimension r
abbrev pub dimension_of : TreeShape → ℕ
dimension_of s = (s.rank + 1) * s.degree + s.rank + s.marks - 3

-- a class whose parameter is within its limits and whose mark is from 1 to m, to a power from 1 to 64
pub record IsPower (m : ℕ) (p : Power) : Type 0 where
  pub class : IsClassFor m p.class
  pub least : 1 ≤ p.power
  pub most : p.power ≤ 64

-- a coefficient from -1,000,000,000 to 1,000,000,000, and at most 16 classes
pub record IsTerm (m : ℕ) (t : Term) : Type 0 where
  pub coefficient : unsigned_abs t.coefficient ≤ 1000000000
  pub count : length t.classes ≤ 16
  pub classes : All (IsPower m) t.classes

-- the degree of a product of powers on the maps of degree d: the sum of degree times power
abbrev pub powers_degree : ℕ → List Power → ℕ
powers_degree d [] = 0
powers_degree d (p ∷ ps) = class_degree p.class d * p.power + powers_degree d ps

-- the degree of a term is the dimension
abbrev pub HasDimension : TreeShape → Term → Type 0
HasDimension s t = powers_degree s.degree t.classes ≡ dimension_of s

-- a term of a problem of this shape
pub record IsTermOf (s : TreeShape) (t : Term) : Type 0 where
  pub limits : IsTerm s.marks t
  pub dimension : HasDimension s t

-- an integral has a term, and all its terms are those of a problem of this shape
pub record IsIntegralOf (s : TreeShape) (terms : List Term) : Type 0 where
  pub some : 1 ≤ length terms
  pub each : All (IsTermOf s) terms

-- 1 to 8 moduli, pairwise coprime, with a product below 2^126
pub record AreModuli (ms : List ℕ) : Type 0 where
  pub least : 1 ≤ length ms
  pub most : length ms ≤ 8
  pub each : All IsModulus ms
  pub coprime : ArePairwiseCoprime ms
  pub product : product_of ms < 2 ^ 126

-- the bounds A and B of a fraction, each from 1 to 2^62 - 1, with 2AB below the product of the moduli
pub record AreBounds (ms : List ℕ) (top bottom : ℕ) : Type 0 where
  pub least_top : 1 ≤ top
  pub most_top : top < 2 ^ 62
  pub least_bottom : 1 ≤ bottom
  pub most_bottom : bottom < 2 ^ 62
  pub below : 2 * top * bottom < product_of ms

-- the rules that every problem keeps
pub record KeepsRules (p : ProblemView) : Type 0 where
  pub shape : within_limits p.shape ≡ true
  pub few_trees : tree_count p.shape ≤ 2 ^ 40
  pub one_weight_each : length p.weights ≡ p.shape.rank + 1
  pub weights : AreWeights p.weights
  pub moduli : AreModuli p.moduli
  pub bounds : AreBounds p.moduli p.top_bound p.bottom_bound
  pub some_integrals : 1 ≤ length p.integrals
  pub few_integrals : length p.integrals ≤ 8
  pub few_terms : sum_by length p.integrals ≤ 32
  pub integrals : All (IsIntegralOf p.shape) p.integrals
