-- What stands at the edges of a tree, edge by edge.
use Rattle.std.proofs.Common.{◌≡◌, ℕ, zero, suc, ◌+◌, ◌<◌, ◌≤◌, Bool, true, false, ◌||◌, ◌==◌, if◌then◌else◌, List, [], ◌∷◌, ◌++◌, length, take, get_or, slice_index, map, All, refl, ap, arith, add-one, eqb-true}
use Rattle.std.proofs.lemmas.List.Elements.{All-nil, All-cons}
use Rattle.trees.specs.Words.{degree_of}
use Rattle.localisation.specs.VertexFraction.{End}
use Rattle.localisation.specs.ClassValue.{ends_among, along_edges}
use Rattle.tree_parts.specs.declared.edges.ColouredEdge.{ColouredEdge}
use Rattle.tree_parts.specs.Edges.{coloured_edge}
use Rattle.tree_parts.specs.Ends.{ends_of}

-- an edge has an end at the vertex, or none
one_or_none : (b c : Bool) (x y : End) (rest : List End) (n : ℕ) → n ≡ length rest
    → (if b || c then 1 else 0) + n ≡ length ((if b then x ∷ [] else if c then y ∷ [] else []) ++ rest)
one_or_none true c x y rest n e = omega (arith, e)
one_or_none false true x y rest n e = omega (arith, e)
one_or_none false false x y rest n e = omega (arith, e)

-- the number of edges that end at a vertex
pub ends_counted : (v : ℕ) (colours : List ℕ) (es : List (ℕ × ℕ)) (ds : List ℕ) → length ds ≡ length es
    → degree_of v es ≡ length (ends_among v colours es ds)
ends_counted v colours [] ds h = refl
ends_counted v colours (e ∷ es) [] h = absurd (omega arith)
ends_counted v colours (e ∷ es) (a ∷ ds) h =
    one_or_none (e.0 == v) (e.1 == v) (record { colour = slice_index colours e.1; degree = a })
    (record { colour = slice_index colours e.0; degree = a })
    (ends_among v colours es ds) _ (ends_counted v colours es ds (omega arith))

-- there are no more than edges
one_at_most : (b c : Bool) (x y : End) (rest : List End) (n : ℕ) → length rest ≤ n
    → length ((if b then x ∷ [] else if c then y ∷ [] else []) ++ rest) ≤ suc n
one_at_most true c x y rest n h = omega arith
one_at_most false true x y rest n h = omega arith
one_at_most false false x y rest n h = omega arith

pub ends_few : (v : ℕ) (colours : List ℕ) (es : List (ℕ × ℕ)) (ds : List ℕ)
    → length (ends_among v colours es ds) ≤ length es
ends_few v colours [] ds = omega arith
ends_few v colours (e ∷ es) [] = omega arith
ends_few v colours (e ∷ es) (a ∷ ds) =
    one_at_most (e.0 == v) (e.1 == v) (record { colour = slice_index colours e.1; degree = a })
    (record { colour = slice_index colours e.0; degree = a })
    (ends_among v colours es ds) (length es) (ends_few v colours es ds)

-- ---- a fact of each end
all_with : (P : End → Type 0) (b c : Bool) (x y : End) (rest : List End) → (b ≡ true → P x) → (c ≡ true → P y)
    → All P rest
    → All P ((if b then x ∷ [] else if c then y ∷ [] else []) ++ rest)
all_with P true c x y rest f g h = All-cons P x rest (f refl) h
all_with P false true x y rest f g h = All-cons P y rest (g refl) h
all_with P false false x y rest f g h = h

pub all_among : (P : End → Type 0) (v : ℕ) (colours : List ℕ) (es : List (ℕ × ℕ)) (ds : List ℕ) → length ds ≡ length es
    → ((k : ℕ) → k < length es → (get_or es k (0, 0)).0 ≡ v → P (record { colour = slice_index colours (get_or es k (0, 0)).1; degree = get_or ds k 0 }))
    → ((k : ℕ) → k < length es → (get_or es k (0, 0)).1 ≡ v → P (record { colour = slice_index colours (get_or es k (0, 0)).0; degree = get_or ds k 0 }))
    → All P (ends_among v colours es ds)
all_among P v colours [] ds h first second = All-nil P
all_among P v colours (e ∷ es) [] h first second = absurd (omega arith)
all_among P v colours (e ∷ es) (a ∷ ds) h first second =
    all_with P (e.0 == v) (e.1 == v) (record { colour = slice_index colours e.1; degree = a })
    (record { colour = slice_index colours e.0; degree = a })
    (ends_among v colours es ds) (λ t. first 0 (omega arith) (eqb-true e.0 v t))
    (λ t. second 0 (omega arith) (eqb-true e.1 v t))
    (all_among P v colours es ds (omega arith) (λ k lt. first (suc k) (omega arith)) (λ k lt. second (suc k) (omega arith)))

pub all_ends : (P : End → Type 0) (ps : List (ℕ × ℕ)) → All P (ends_of ps)
    → All (λ p. P (record { colour = p.0; degree = p.1 })) ps
all_ends P [] h = All-nil (λ p. P (record { colour = p.0; degree = p.1 }))
all_ends P (p ∷ ps) h =
    All-cons (λ p. P (record { colour = p.0; degree = p.1 })) p ps
    (h 0 (record { colour = 0; degree = 0 }) (omega arith))
    (all_ends P ps (λ k d lt. h (suc k) d (omega arith)))

pub length-ends_of : (ps : List (ℕ × ℕ)) → length (ends_of ps) ≡ length ps
length-ends_of [] = refl
length-ends_of (p ∷ ps) = ap suc (length-ends_of ps)

-- ---- a fact of each edge
pub all_along : (P : ColouredEdge → Type 0) (colours : List ℕ) (es : List (ℕ × ℕ)) (ds : List ℕ) → length ds ≡ length es
    → ((k : ℕ) → k < length es → P (coloured_edge (slice_index colours (get_or es k (0, 0)).0) (slice_index colours (get_or es k (0, 0)).1) (get_or ds k 0)))
    → All P (along_edges coloured_edge colours es ds)
all_along P colours [] ds h each = All-nil P
all_along P colours (e ∷ es) [] h each = absurd (omega arith)
all_along P colours (e ∷ es) (a ∷ ds) h each =
    All-cons P (coloured_edge (slice_index colours e.0) (slice_index colours e.1) a)
    (along_edges coloured_edge colours es ds) (each 0 (omega arith))
    (all_along P colours es ds (omega arith) (λ k lt. each (suc k) (omega arith)))

-- ---- one edge more
along-take : {A : Type 0} (f : ℕ → ℕ → ℕ → A) (colours : List ℕ) (es : List (ℕ × ℕ)) (ds : List ℕ) (i : ℕ)
    → i < length es → length ds ≡ length es
    → along_edges f colours (take (suc i) es) (take (suc i) ds)
    ≡ along_edges f colours (take i es) (take i ds)
    ++ f (slice_index colours (get_or es i (0, 0)).0) (slice_index colours (get_or es i (0, 0)).1) (get_or ds i 0) ∷ []
along-take f colours [] ds i h k = absurd (omega arith)
along-take f colours (e ∷ es) [] i h k = absurd (omega arith)
along-take f colours (e ∷ es) (a ∷ ds) zero h k = refl
along-take f colours (e ∷ es) (a ∷ ds) (suc i) h k =
    ap (λ xs. f (slice_index colours e.0) (slice_index colours e.1) a ∷ xs)
    (along-take f colours es ds i (omega arith) (omega arith))

pub along_edges-more : {A : Type 0} (f : ℕ → ℕ → ℕ → A) (colours : List ℕ) (es : List (ℕ × ℕ)) (ds : List ℕ) (i : ℕ)
    → i < length es → length ds ≡ length es
    → along_edges f colours (take (i + 1) es) (take (i + 1) ds)
    ≡ along_edges f colours (take i es) (take i ds)
    ++ f (slice_index colours (get_or es i (0, 0)).0) (slice_index colours (get_or es i (0, 0)).1) (get_or ds i 0) ∷ []
along_edges-more f colours es ds i h k = rw add-one (along-take f colours es ds i h k)

-- ---- a function of the colours and the degree is one of the edge
pub along_edges-map : {A : Type 0} (f : ℕ → ℕ → ℕ → A) (colours : List ℕ) (es : List (ℕ × ℕ)) (ds : List ℕ)
    → along_edges f colours es ds
    ≡ map (λ (e : ColouredEdge). f e.first e.second e.degree) (along_edges coloured_edge colours es ds)
along_edges-map f colours [] ds = refl
along_edges-map f colours (e ∷ es) [] = refl
along_edges-map f colours (e ∷ es) (a ∷ ds) =
    ap (λ xs. f (slice_index colours e.0) (slice_index colours e.1) a ∷ xs) (along_edges-map f colours es ds)
