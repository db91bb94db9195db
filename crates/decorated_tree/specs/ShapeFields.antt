-- The fields of `Shape`, given back by its three numbers.
use Rattle.std.specs.Prelude.{◌≡◌, ◌≤◌, ◌^◌, ℕ, List, true}
use Rattle.std.proofs.Common.{sym}
use Rattle.trees.specs.Decorated.{TreeShape}
use Rattle.trees.specs.TreeNumbers.{tree_count}
use Rattle.decorated_tree.specs.Shapes.{shape_of, within_limits, counts_of}
use Rattle.decorated_tree.specs.declared.shape.Shape.TheInside.{Inside}

abbrev pub shape_from : Inside → TreeShape
shape_from f = shape_of f.r f.d f.m

pub record IsShape (f : Inside) : Type 0 where
  pub within : within_limits (shape_of f.r f.d f.m) ≡ true
  pub counts : f.counts ≡ counts_of (shape_of f.r f.d f.m)
  pub count : f.count ≡ tree_count (shape_of f.r f.d f.m)
  pub limited : tree_count (shape_of f.r f.d f.m) ≤ 2 ^ 40

abbrev pub fields_of : TreeShape → Inside
fields_of s = record { r = s.rank; d = s.degree; m = s.marks; counts = counts_of s; count = tree_count s }

pub fields_of-shape : (f : Inside) → IsShape f → fields_of (shape_from f) ≡ f
fields_of-shape f h = same _ _ (sym h.counts) (sym h.count)
  where
    make : List ℕ → ℕ → Inside
    make counts count = record { r = f.r; d = f.d; m = f.m; counts = counts; count = count }

    same : (counts : List ℕ) (count : ℕ) → counts ≡ f.counts → count ≡ f.count → make counts count ≡ f
    same counts count p q = rw (p, q)
