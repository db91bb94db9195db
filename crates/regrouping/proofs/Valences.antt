-- The valence of a vertex, its children along a walk, and the powers that are spread over the steps.
use Rattle.std.proofs.Common.{◌≡◌, ◌≢◌, ℕ, ◌+◌, ◌-◌, ◌<◌, ◌≤◌, Bool, true, false, ◌==◌, ◌||◌, if◌then◌else◌, List, [], ◌∷◌, ◌++◌, length, map, refl, sym, ap, ap₂, subst, ◌∙◌, ⊎_elim, arith}
use Rattle.std.proofs.lemmas.Bool.{cases_eq}
use Rattle.std.proofs.lemmas.Bool.Decides.{nat_tests}
use Rattle.arithmetic.specs.Fractions.{Fraction, product_of_fractions, power_of_fraction}
use Rattle.trees.specs.Words.{degree_of}
use Rattle.lists.specs.Members.{is_member}
use Rattle.trees.specs.Walks.{IsWalk}
use Rattle.trees.proofs.WalkLaws.{Within, is_walked, now_there, still_there, apart}
use Rattle.trees.proofs.WalkedEdges.{step_edge}
use Rattle.trees.proofs.DecodedWords.{touches-between}
use Rattle.localisation.specs.VertexFraction.{End}
use Rattle.localisation.specs.ClassValue.{ends_among}
use Rattle.regrouping.specs.Spread.{over, children_of, end_of}
use Rattle.regrouping.proofs.EdgeProducts.{over-same_below}
use Rattle.regrouping.proofs.ParentPowers.{LeadsBackBelow, over-children}

-- as many ends as edges
pub length-ends : (v : ℕ) (colours : List ℕ) (es : List (ℕ × ℕ)) (ds : List ℕ) → length ds ≡ length es → length (ends_among v colours es ds) ≡ degree_of v es
length-ends v colours [] ds h = refl
length-ends v colours (e ∷ es) [] h = absurd (omega arith)
length-ends v colours (e ∷ es) (a ∷ ds) h =
    by_case (e.0 == v) (e.1 == v) (end_of colours e.1 a) (end_of colours e.0 a) (ends_among v colours es ds) (degree_of v es)
    (length-ends v colours es ds (omega arith))
  where
    by_case : (p q : Bool) (x y : End) (rest : List End) (k : ℕ) → length rest ≡ k
        → length ((if p then x ∷ [] else if q then y ∷ [] else []) ++ rest) ≡ (if p || q then 1 else 0) + k
    by_case true q x y rest k h = omega (arith, h)
    by_case false true x y rest k h = omega (arith, h)
    by_case false false x y rest k h = omega (arith, h)

-- how many steps of a walk come to the vertex
abbrev pub arrivals : List (ℕ × ℕ) → ℕ → ℕ
arrivals [] v = 0
arrivals (s ∷ walk) v = (if s.0 == v then 1 else 0) + arrivals walk v

pub degree-walk : (walk : List (ℕ × ℕ)) (before : List ℕ) (v : ℕ) → IsWalk walk before
    → degree_of v (map step_edge walk) ≡ arrivals walk v + children_of walk v
degree-walk [] before v w = refl
degree-walk (s ∷ walk) before v w =
    let ne : s.1 ≢ s.0 = apart s.1 s.0 before w.1 w.0 in
    let first = touches-between v s.0 s.1 (λ e. ne (sym e)) in
    let rest = degree-walk walk (s.0 ∷ before) v w.2 in
    ap₂ (λ x y. x + y) first rest ∙ turned (if s.0 == v then 1 else 0) (if s.1 == v then 1 else 0) (arrivals walk v) (children_of walk v)
  where
    turned : (a b c d : ℕ) → a + b + (c + d) ≡ a + c + (b + d)
    turned a b c d = omega arith

arrivals-there : (walk : List (ℕ × ℕ)) (before : List ℕ) (v : ℕ) → IsWalk walk before → is_member v before ≡ true → arrivals walk v ≡ 0
arrivals-there [] before v w h = refl
arrivals-there (s ∷ walk) before v w h =
    step s.0 v (arrivals walk v) (apart v s.0 before h w.0) (arrivals-there walk (s.0 ∷ before) v w.2 (still_there v s.0 before h))
  where
    step : (x v k : ℕ) → v ≢ x → k ≡ 0 → (if x == v then 1 else 0) + k ≡ 0
    step x v k ne h = grind (arith, nat_tests)

arrivals-walked : (walk : List (ℕ × ℕ)) (before : List ℕ) (v : ℕ) → IsWalk walk before → is_walked v walk ≡ true → arrivals walk v ≡ 1
arrivals-walked [] before v w h = grind (arith, h)
arrivals-walked (s ∷ walk) before v w h =
    step s.0 v (is_walked v walk) (arrivals walk v) h
    (λ e. arrivals-there walk (s.0 ∷ before) v w.2 (subst (λ x. is_member x (s.0 ∷ before) ≡ true) e (now_there s.0 before)))
    (λ k. arrivals-walked walk (s.0 ∷ before) v w.2 k)
  where
    step : (x v : ℕ) (b : Bool) (k : ℕ) → ((x == v) || b) ≡ true → (x ≡ v → k ≡ 0) → (b ≡ true → k ≡ 1) → (if x == v then 1 else 0) + k ≡ 1
    step x v b k h f g = ⊎_elim (λ e. let z = f e in grind (arith, nat_tests)) (λ ne. later (x == v) b k (apart_test x v ne) h g) (cases_eq x v)
      where
        apart_test : (x v : ℕ) → (x ≡ v → ⊥) → (x == v) ≡ false
        apart_test x v ne = grind (arith, nat_tests)

        later : (t b : Bool) (k : ℕ) → t ≡ false → (t || b) ≡ true → (b ≡ true → k ≡ 1) → (if t then 1 else 0) + k ≡ 1
        later t b k e h g = grind arith

-- a walk from vertex 0 to every other vertex below n, whose steps are the edges in some order
pub record IsRootedWalk (n : ℕ) (es walk : List (ℕ × ℕ)) : Type 0 where
  pub walks : IsWalk walk (0 ∷ [])
  pub within : Within walk n
  pub reaches : (v : ℕ) → v < n → 0 ≢ v → is_walked v walk ≡ true
  pub edges : (v : ℕ) → degree_of v es ≡ degree_of v (map step_edge walk)

leads_back : (n : ℕ) (walk : List (ℕ × ℕ)) (before : List ℕ) → IsWalk walk before → Within walk n
    → ((v : ℕ) → is_member v before ≡ true → v < n) → LeadsBackBelow n walk
leads_back n [] before w h f = tt
leads_back n (s ∷ walk) before w h f =
    (f s.1 w.1, leads_back n walk (s.0 ∷ before) w.2 h.1 (λ v k. one_of s.0 v (is_member v before) n h.0 (f v) k))
  where
    one_of : (x v : ℕ) (b : Bool) (n : ℕ) → x < n → (b ≡ true → v < n) → ((x == v) || b) ≡ true → v < n
    one_of x v b n l f k = grind (arith, nat_tests)

-- the valence less 1 counts the steps back to the vertex, but for the first step
pub valence-is : (n : ℕ) (es : List (ℕ × ℕ)) (s : ℕ × ℕ) (rest : List (ℕ × ℕ)) (v : ℕ) → IsRootedWalk n es (s ∷ rest) → v < n
    → degree_of v es - 1 ≡ children_of rest v
valence-is n es s rest v r l =
    let count = r.edges v ∙ degree-walk (s ∷ rest) (0 ∷ []) v r.walks in
    let back : s.1 ≡ 0 = root s.1 (r.walks).1 in
    ⊎_elim (λ e. at_root s.1 v (degree_of v es) (arrivals (s ∷ rest) v) (children_of rest v) count back e
    (arrivals-there (s ∷ rest) (0 ∷ []) v r.walks (root_there v e)))
    (λ ne. elsewhere s.1 v (degree_of v es) (arrivals (s ∷ rest) v) (children_of rest v) count back ne
    (arrivals-walked (s ∷ rest) (0 ∷ []) v r.walks (r.reaches v l ne))) (cases_eq 0 v)
  where
    root : (x : ℕ) → is_member x (0 ∷ []) ≡ true → x ≡ 0
    root x h = grind (arith, nat_tests)

    root_there : (v : ℕ) → 0 ≡ v → is_member v (0 ∷ []) ≡ true
    root_there v e = grind (arith, nat_tests)

    at_root : (x v d a k : ℕ) → d ≡ a + ((if x == v then 1 else 0) + k) → x ≡ 0 → 0 ≡ v → a ≡ 0 → d - 1 ≡ k
    at_root x v d a k c b e z = grind (arith, nat_tests)

    elsewhere : (x v d a k : ℕ) → d ≡ a + ((if x == v then 1 else 0) + k) → x ≡ 0 → (0 ≡ v → ⊥) → a ≡ 1 → d - 1 ≡ k
    elsewhere x v d a k c b ne z = grind (arith, nat_tests)

-- each vertex has an edge
pub valence-positive : (n : ℕ) (es : List (ℕ × ℕ)) (s : ℕ × ℕ) (rest : List (ℕ × ℕ)) (v : ℕ) → IsRootedWalk n es (s ∷ rest) → v < n → 1 ≤ degree_of v es
valence-positive n es s rest v r l =
    let count = r.edges v ∙ degree-walk (s ∷ rest) (0 ∷ []) v r.walks in
    ⊎_elim (λ e. at_root s.1 v (degree_of v es) (arrivals (s ∷ rest) v) (children_of rest v) count (root s.1 (r.walks).1) e)
    (λ ne. elsewhere (degree_of v es) (arrivals (s ∷ rest) v) (children_of (s ∷ rest) v) count (arrivals-walked (s ∷ rest) (0 ∷ []) v r.walks (r.reaches v l ne)))
    (cases_eq 0 v)
  where
    root : (x : ℕ) → is_member x (0 ∷ []) ≡ true → x ≡ 0
    root x h = grind (arith, nat_tests)

    at_root : (x v d a k : ℕ) → d ≡ a + ((if x == v then 1 else 0) + k) → x ≡ 0 → 0 ≡ v → 1 ≤ d
    at_root x v d a k c b e = grind (arith, nat_tests)

    elsewhere : (d a k : ℕ) → d ≡ a + k → a ≡ 1 → 1 ≤ d
    elsewhere d a k c e = omega arith

-- a power at each vertex, less by 1 than its valence, is a product over all steps but the first: the factor of the vertex that it leads back to
pub over-valences : (n : ℕ) (es : List (ℕ × ℕ)) (s : ℕ × ℕ) (rest : List (ℕ × ℕ)) (f : ℕ → Fraction) → 0 < n → IsRootedWalk n es (s ∷ rest)
    → over n (λ v. power_of_fraction (f v) (degree_of v es - 1)) ≡ product_of_fractions (map (λ (t : ℕ × ℕ). f t.1) rest)
over-valences n es s rest f some r =
    over-same_below n _ _ (λ v l. ap (power_of_fraction (f v)) (valence-is n es s rest v r l))
    ∙ over-children n f rest (leads_back n (s ∷ rest) (0 ∷ []) r.walks r.within (λ v h. root_below v n some h)).1
  where
    root_below : (v n : ℕ) → 0 < n → is_member v (0 ∷ []) ≡ true → v < n
    root_below v n l h = grind (arith, nat_tests)
