-- The problems that a number makes: rational curves of degree 3 or 4 on a quintic threefold.
use Rattle.std.specs.Prelude.{ℕ, ◌+◌, ◌%◌, ◌^◌, ℤ, pos, List, [], ◌∷◌}
use Rattle.decorated_tree.specs.Shapes.{shape_of}
use Rattle.classes.specs.declared.class.Class.TheVariants.{Hypersurface}
use Rattle.classes.specs.declared.class.Term.{Term}
use Rattle.problem.specs.Rules.{ProblemView}

-- the weights 1, g, g^2, g^3 and g^4
abbrev pub weights_of_base : ℕ → List ℤ
weights_of_base g = pos 1 ∷ pos g ∷ pos (g ^ 2) ∷ pos (g ^ 3) ∷ pos (g ^ 4) ∷ []

-- one integral, of the hypersurface class of degree 5
abbrev pub quintic : List (List Term)
quintic = (record { coefficient = pos 1; classes = record { class = Hypersurface 5; power = 1 } ∷ [] } ∷ []) ∷ []

-- the problem of a number
unfoldable pub generated_problem : ℕ → ProblemView
generated_problem number = record {
  shape = shape_of 4 (3 + number % 2) 0;
  weights = weights_of_base (10 + number % 90);
  moduli = 1000000007 ∷ 1000000009 ∷ [];
  top_bound = 20000000000000;
  bottom_bound = 1000;
  integrals = quintic;
}
