-- The texts of decorated trees are of the grammar, and the tree of parts.
use Rattle.std.proofs.Common.{◌≡◌, ℕ, zero, suc, ◌+◌, ◌-◌, ◌<◌, ◌≤◌, Bool, true, ◌&&◌, ◌==◌, nat_lt, nat_le, List, [], ◌∷◌, length, take, drop, replicate, sum, refl, sym, ap, ◌∙◌, arith}
use Rattle.std.proofs.Common.{lit<}
use Rattle.std.specs.List.{list_all}
use Rattle.std.proofs.lemmas.Bool.{and_parts, and_from, eqb-true, eq-eqb, ltb-true, leb-true, lt-ltb, le-leb}
use Rattle.std.proofs.lemmas.List.Sums.{sum_by-cons}
use Rattle.std.proofs.Math.Seq.{take-append_seam, drop-append_seam}
use Rattle.lists.specs.Padding.{padded}
use Rattle.trees.specs.Edges.{is_tree}
use Rattle.trees.specs.Decorated.{DecoratedTree, TreeShape, is_decorated}
use Rattle.trees.proofs.AllTrees.{parts}
use Rattle.prufer.specs.EdgeLists.{is_edge_list}
use Rattle.decorated_tree.specs.Shapes.{within_limits}
use Rattle.decorated_tree.specs.Trees.{tree_view, is_padded, is_tree_of}
use Rattle.tree_text.specs.Grammar.{is_small, HasText}
use Rattle.tree_text.specs.declared.parts.Parts.{Parts}
use Rattle.tree_text.specs.Steps.{parts_view, tree_of_parts}

-- ---- decorated trees

all_of : {X : Type 0} (p q : X → Bool) (xs : List X) → ((x : X) → p x ≡ true → q x ≡ true) → list_all p xs ≡ true → list_all q xs ≡ true
all_of p q [] more all = refl
all_of p q (x ∷ xs) more all = let a = and_parts _ _ all in and_from _ _ (more x a.0) (all_of p q xs more a.1)

small_below : (n m : ℕ) → n ≤ m → m < 100 → is_small n ≡ true
small_below n m h k = lt-ltb n 100 (omega arith)

small_terms : (ds : List ℕ) → sum ds ≤ 10 → list_all is_small ds ≡ true
small_terms [] h = refl
small_terms (d ∷ ds) h =
    let e : sum (d ∷ ds) ≡ d + sum ds = sum_by-cons (λ z. z) d ds in
    and_from _ _ (small_below d 10 (omega arith) (lit< tt)) (small_terms ds (omega arith))

pub record IsWithin (s : TreeShape) : Type 0 where
  pub rank : s.rank ≤ 12
  pub degree : s.degree ≤ 10
  pub marks : s.marks ≤ 12

pub limits : (s : TreeShape) → within_limits s ≡ true → IsWithin s
limits s h =
    let a = and_parts _ _ h in
    let b = and_parts _ _ a.0 in
    let c = and_parts _ _ b.0 in
    let d = and_parts _ _ c.0 in
    record { rank = leb-true s.rank 12 d.1; degree = leb-true s.degree 10 b.1; marks = leb-true s.marks 12 a.1 }

-- one edge less than vertices
edge_count : (n : ℕ) (es : List (ℕ × ℕ)) → is_tree n es ≡ true → length es + 1 ≡ n
edge_count n es h = eqb-true (length es + 1) n (and_parts _ _ (and_parts _ _ h).0).1

-- the text of a decorated tree is of the grammar
pub has_text : (s : TreeShape) (g : DecoratedTree) → within_limits s ≡ true → is_decorated s g ≡ true → HasText g
has_text s g within h =
    let l = limits s within in
    let rank = l.rank in
    let degree = l.degree in
    let d = parts s g h in
    let count = edge_count g.vertices g.edges d.tree in
    let least = d.least in
    let most = d.most in
    let colours = d.colours in
    record {
      least_edges = omega arith;
      most_edges = omega arith;
      degrees = d.degrees;
      least_colours = omega arith;
      most_colours = omega arith;
      most_marks = (let m = l.marks in let e = d.marks in omega arith);
      vertices = sym d.colours;
      small_ends = all_of _ _ g.edges (λ e k. let a = and_parts (nat_lt e.0 e.1) (nat_lt e.1 g.vertices) k in
          ends e.0 e.1 g.vertices (ltb-true e.0 e.1 a.0) (ltb-true e.1 g.vertices a.1) (omega arith)) (and_parts _ _ (and_parts _ _ (and_parts _ _ d.tree).0).0).1;
      small_degrees = small_terms g.degrees (let e = d.degrees_sum in omega arith);
      small_colours = all_of (λ c. nat_le c s.rank) is_small g.colours (λ c k. small_below c s.rank (leb-true c s.rank k) (omega arith)) d.colours_within;
      small_marks = all_of (λ v. nat_lt v g.vertices) is_small g.marks (λ v k. let b = ltb-true v g.vertices k in small_below v g.vertices (omega arith) (omega arith)) d.marks_within;
    }
  where
    ends : (u v n : ℕ) → u < v → v < n → n ≤ 11 → (is_small u && is_small v) ≡ true
    ends u v n h k l = and_from _ _ (lt-ltb u 100 (omega arith)) (lt-ltb v 100 (omega arith))

-- ---- the tree of parts

zeros_all : (n : ℕ) → list_all (λ x. x == 0) (replicate n 0) ≡ true
zeros_all zero = refl
zeros_all (suc n) = zeros_all n

-- the used entries of an array
padding_zero : (xs : List ℕ) (n k : ℕ) → length xs ≡ k → list_all (λ x. x == 0) (drop k (padded 0 n xs)) ≡ true
padding_zero xs n k e =
    ap (λ (i : ℕ). list_all (λ x. x == 0) (drop i (padded 0 n xs))) (sym e)
    ∙ ap (list_all (λ x. x == 0)) (drop-append_seam xs (replicate (n - length xs) 0)) ∙ zeros_all (n - length xs)

front_padded : (xs : List ℕ) (n k : ℕ) → length xs ≡ k → take k (padded 0 n xs) ≡ xs
front_padded xs n k e = ap (λ (i : ℕ). take i (padded 0 n xs)) (sym e) ∙ take-append_seam xs (replicate (n - length xs) 0)

-- with one edge less than colours, and a degree for each edge
pub view_of_parts : (p : Parts) → length p.edges + 1 ≡ length p.colours → length p.degrees ≡ length p.edges → tree_view (tree_of_parts p) ≡ parts_view p
view_of_parts p one each =
    same _ _ _ (front_padded p.colours 11 (length p.colours) refl) (front_padded p.degrees 10 (length p.colours - 1) (omega arith))
    (front_padded p.marks 12 (length p.marks) refl)
  where
    make : List ℕ → List ℕ → List ℕ → DecoratedTree
    make cs ds ms = record { vertices = length p.colours; edges = p.edges; colours = cs; degrees = ds; marks = ms }

    same : (cs ds ms : List ℕ) → cs ≡ p.colours → ds ≡ p.degrees → ms ≡ p.marks → make cs ds ms ≡ parts_view p
    same cs ds ms x y z = rw (x, y, z)

padded_parts : (p : Parts) → length p.edges + 1 ≡ length p.colours → length p.degrees ≡ length p.edges → is_padded (tree_of_parts p) ≡ true
padded_parts p one each =
    and_from _ _ (and_from _ _ (padding_zero p.colours 11 (length p.colours) refl) (padding_zero p.degrees 10 (length p.colours - 1) (omega arith)))
    (padding_zero p.marks 12 (length p.marks) refl)

-- a decorated tree with the entries of the parts has the parts
pub tree_has_parts : (s : TreeShape) (p : Parts) → HasText (parts_view p) → is_tree_of s (tree_of_parts p) ≡ true → tree_view (tree_of_parts p) ≡ parts_view p
tree_has_parts s p has h =
    let d = parts s (tree_view (tree_of_parts p)) (and_parts _ _ h).1 in
    view_of_parts p (edge_count (length p.colours) p.edges d.tree) has.degrees

-- parts of a decorated tree make it
pub parts_make_tree : (s : TreeShape) (p : Parts) → is_decorated s (parts_view p) ≡ true → is_tree_of s (tree_of_parts p) ≡ true
parts_make_tree s p h =
    let d = parts s (parts_view p) h in
    let count = edge_count (length p.colours) p.edges d.tree in
    and_from _ _ (and_from _ _ (eq-eqb (length p.marks) s.marks d.marks) (padded_parts p count d.degrees))
    (ap (is_decorated s) (view_of_parts p count d.degrees) ∙ h)

-- the edges of a decorated tree are in order
pub edges_in_order : (s : TreeShape) (p : Parts) → HasText (parts_view p) → is_decorated s (parts_view p) ≡ true → is_edge_list p.edges ≡ true
edges_in_order s p has h =
    let d = parts s (parts_view p) h in
    let a = and_parts _ _ (and_parts _ _ (and_parts _ _ d.tree).0).0 in
    and_from _ _ (and_from _ _ (le-leb (length p.edges) 10 has.most_edges) a.0)
    (all_of _ _ p.edges (λ e k. (and_parts (nat_lt e.0 e.1) (nat_lt e.1 (length p.colours)) k).0) a.1)
