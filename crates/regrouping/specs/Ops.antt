-- What one term of a tree adds, as a product over a list of operations: one of each edge, in any order, one of each step of a walk but the
-- first, one of each vertex, one of each mark, and what is left of the term.
use Rattle.std.specs.Prelude.{ℕ, List, [], ◌∷◌, map, ℤ, pos}
use Rattle.arithmetic.specs.Numbers.{factorial}
use Rattle.arithmetic.specs.Fractions.{Fraction, fraction, times, product_of_fractions}
use Rattle.trees.specs.Decorated.{DecoratedTree}
use Rattle.classes.specs.declared.class.Term.{Term}
use Rattle.localisation.specs.VertexFraction.{End}
use Rattle.localisation.specs.EdgeFraction.{edge_fraction}
use Rattle.regrouping.specs.Spread.{over, end_of}
use Rattle.regrouping.specs.TreeParts.{share_at, step_part, hub_part, mark_part}
use Rattle.regrouping.specs.TermEdges.{term_edge, term_step, term_whole}

-- edges with their degrees
abbrev pub with_degrees : List (ℕ × ℕ) → List ℕ → List ((ℕ × ℕ) × ℕ)
with_degrees [] ds = []
with_degrees (e ∷ es) [] = []
with_degrees (e ∷ es) (a ∷ ds) = (e, a) ∷ with_degrees es ds

-- an edge x.0 with its degree x.1: what it gives at both ends ..
abbrev pub both_at : (ℕ → End → Fraction) → List ℕ → (ℕ × ℕ) × ℕ → Fraction
both_at f colours x = times (f (x.0).0 (end_of colours (x.0).1 x.1)) (f (x.0).1 (end_of colours (x.0).0 x.1))

-- .. and a function of its end colours and its degree
abbrev pub edge_at : (ℕ → ℕ → ℕ → Fraction) → List ℕ → (ℕ × ℕ) × ℕ → Fraction
edge_at f colours x = f (end_of colours (x.0).0 x.1).colour (end_of colours (x.0).1 x.1).colour x.1

abbrev pub edge_op : List ℤ → Term → DecoratedTree → (ℕ × ℕ) × ℕ → Fraction
edge_op ws term g x =
    times (edge_at (edge_fraction ws) g.colours x) (times (both_at (share_at ws g) g.colours x) (edge_at (term_edge ws term) g.colours x))

abbrev pub step_op : List ℤ → Term → DecoratedTree → ℕ × ℕ → Fraction
step_op ws term g s = times (step_part ws g s) (term_step ws term g s)

abbrev pub term_start : DecoratedTree → Term → Fraction
term_start g term = times (fraction (pos 1) (pos (factorial g.vertices))) (fraction term.coefficient (pos 1))

abbrev pub term_ops : List ℤ → Term → DecoratedTree → List ((ℕ × ℕ) × ℕ) → List (ℕ × ℕ) → Fraction
term_ops ws term g xs rest =
    times (term_start g term)
    (times (product_of_fractions (map (edge_op ws term g) xs))
    (times (product_of_fractions (map (step_op ws term g) rest))
    (times (over g.vertices (hub_part ws g)) (times (product_of_fractions (map (mark_part ws g) g.marks)) (term_whole ws term g)))))
