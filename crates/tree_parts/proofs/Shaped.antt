-- What the fields of the parts of a tree give.
use Rattle.std.proofs.Common.{◌≡◌, ℕ, ◌-◌, ◌<◌, ◌≤◌, List, [], length, take, slice_index, slice_index_or, get_or, All, sym, ap, subst, ◌∙◌, arith}
use Rattle.std.proofs.lemmas.List.{get_or-take, get_or_default}
use Rattle.decorated_tree.specs.Shapes.{shape_of}
use Rattle.decorated_tree.specs.Trees.{tree_view}
use Rattle.localisation.specs.ClassValue.{colour_of, ends_at, marks_at}
use Rattle.tree_parts.specs.declared.parts.TreeParts.TheInside.{Inside}
use Rattle.tree_parts.specs.Parts.{ShapedTree}
use Rattle.tree_parts.specs.Edges.{IsEdgeOf}
use Rattle.tree_parts.specs.Ends.{ends_of, IsEndOf}
use Rattle.tree_parts.specs.PartsFields.{shaped_from, IsShaped}
use Rattle.tree_parts.proofs.DecoratedParts.{IsSound, tree_sound, edges_each, ends_each, ends_some, ends_most}

pub sound : (f : Inside) → IsShaped f → IsSound (shape_of f.rank f.degree f.tree.m) (tree_view f.tree)
sound f h = tree_sound (shape_of f.rank f.degree f.tree.m) f.tree h.tree

pub at_vertex : (f : Inside) (p : ShapedTree) (v : ℕ) → shaped_from f ≡ p → v < p.tree.vertices → v < f.tree.n
at_vertex f p v is lt = subst (λ q. v < q.tree.vertices) (sym is) lt

pub vertices_most : (f : Inside) → IsShaped f → f.tree.n ≤ 11
vertices_most f h = let most = (sound f h).most in let limited = h.degree_limited in omega (arith, most, limited)

pub below_eleven : (f : Inside) (p : ShapedTree) (v : ℕ) → IsShaped f → shaped_from f ≡ p → v < p.tree.vertices → v < 11
below_eleven f p v h is lt =
    let one = at_vertex f p v is lt in
    let most = vertices_most f h in
    omega (arith, one, most)

-- ---- at a vertex
pub own_row : {A : Type 0} (rows : List (List A)) (v : ℕ) (row : List A) → length rows ≡ 11 → v < 11
    → get_or rows v row ≡ slice_index_or rows v []
own_row rows v row long lt = get_or_default rows v row [] (subst (λ n. v < n) (sym long) lt)

-- the ends at a vertex are those of the tree
own_ends : (f : Inside) (v : ℕ) (ps : List (ℕ × ℕ)) → IsShaped f → v < 11 → ps ≡ slice_index_or f.ends v []
    → ends_of ps ≡ ends_at (tree_view f.tree) v
own_ends f v ps h lt e = ap ends_of e ∙ h.ends v lt

pub shaped_ends : (f : Inside) (p : ShapedTree) (v : ℕ) (ps : List (ℕ × ℕ)) → IsShaped f → shaped_from f ≡ p
    → v < p.tree.vertices → ps ≡ slice_index_or f.ends v []
    → ends_of ps ≡ ends_at p.tree v
shaped_ends f p v ps h is lt e =
    subst (λ q. ends_of ps ≡ ends_at q.tree v) is (own_ends f v ps h (below_eleven f p v h is lt) e)

pub shaped_each : (f : Inside) (p : ShapedTree) (v : ℕ) (ps : List (ℕ × ℕ)) → IsShaped f → shaped_from f ≡ p
    → v < p.tree.vertices → ps ≡ slice_index_or f.ends v []
    → All (IsEndOf p.shape (colour_of p.tree v)) ps
shaped_each f p v ps h is lt e =
    subst (λ q. All (IsEndOf q.shape (colour_of q.tree v)) ps) is
    (ends_each (shape_of f.rank f.degree f.tree.m) (tree_view f.tree) v ps (sound f h) (own_ends f v ps h (below_eleven f p v h is lt) e))

pub shaped_some : (f : Inside) (p : ShapedTree) (v : ℕ) (ps : List (ℕ × ℕ)) → IsShaped f → shaped_from f ≡ p
    → v < p.tree.vertices → ps ≡ slice_index_or f.ends v []
    → 1 ≤ length ps
shaped_some f p v ps h is lt e =
    ends_some (shape_of f.rank f.degree f.tree.m) (tree_view f.tree) v ps (sound f h) (at_vertex f p v is lt)
    (own_ends f v ps h (below_eleven f p v h is lt) e)

pub shaped_most : (f : Inside) (p : ShapedTree) (v : ℕ) (ps : List (ℕ × ℕ)) → IsShaped f → shaped_from f ≡ p
    → v < p.tree.vertices → ps ≡ slice_index_or f.ends v []
    → length ps ≤ p.shape.degree
shaped_most f p v ps h is lt e =
    subst (λ q. length ps ≤ q.shape.degree) is
    (ends_most (shape_of f.rank f.degree f.tree.m) (tree_view f.tree) v ps (sound f h) (own_ends f v ps h (below_eleven f p v h is lt) e))

pub shaped_marks : (f : Inside) (p : ShapedTree) (v : ℕ) (js : List ℕ) → IsShaped f → shaped_from f ≡ p
    → v < p.tree.vertices → js ≡ slice_index_or f.marks v []
    → js ≡ marks_at p.tree v
shaped_marks f p v js h is lt e = subst (λ q. js ≡ marks_at q.tree v) is (e ∙ h.marks v (below_eleven f p v h is lt))

pub colour_within : (f : Inside) (p : ShapedTree) (v : ℕ) → IsShaped f → shaped_from f ≡ p → v < p.tree.vertices
    → slice_index f.tree.colours v ≤ p.shape.rank
colour_within f p v h is lt =
    let s = sound f h in
    let one = at_vertex f p v is lt in
    let long = s.colours in
    let at : slice_index (take f.tree.n f.tree.colours) v ≡ slice_index f.tree.colours v =
    get_or-take f.tree.n f.tree.colours v 0 one in
    subst (λ q. slice_index f.tree.colours v ≤ q.shape.rank) is
    (subst (λ c. c ≤ f.rank) at (s.colours_within v 0 (omega (arith, one, long))))

-- ---- edges and marks
pub shaped_edges : (f : Inside) (p : ShapedTree) → IsShaped f → shaped_from f ≡ p
    → All (IsEdgeOf p.shape) (take (f.tree.n - 1) f.edges)
shaped_edges f p h is =
    subst (λ q. All (IsEdgeOf q.shape) (take (f.tree.n - 1) f.edges)) is
    (subst (All (IsEdgeOf (shape_of f.rank f.degree f.tree.m))) (sym h.edges) (edges_each (shape_of f.rank f.degree f.tree.m) (tree_view f.tree) (sound f h)))

pub mark_within : (f : Inside) (p : ShapedTree) (j : ℕ) → IsShaped f → shaped_from f ≡ p → 1 ≤ j → j ≤ p.shape.marks
    → slice_index f.tree.marks (j - 1) < p.tree.vertices
mark_within f p j h is least most =
    let s = sound f h in
    let m : j ≤ f.tree.m = subst (λ q. j ≤ q.shape.marks) (sym is) most in
    let below : j - 1 < f.tree.m = omega (arith, m, least) in
    let long = s.marks in
    let at : slice_index (take f.tree.m f.tree.marks) (j - 1) ≡ slice_index f.tree.marks (j - 1) =
    get_or-take f.tree.m f.tree.marks (j - 1) 0 below in
    subst (λ q. slice_index f.tree.marks (j - 1) < q.tree.vertices) is
    (subst (λ v. v < f.tree.n) at (s.marks_within (j - 1) 0 (omega (arith, below, long))))
