-- The ends at each vertex, one edge after another.
use Rattle.std.proofs.Common.{◌≡◌, ◌≢◌, ℕ, zero, suc, ◌+◌, ◌<◌, ◌≤◌, ◌⊎◌, inl, inr, ◌==◌, Bool, true, false, if◌then◌else◌, List, [], ◌∷◌, ◌++◌, length, take, get_or, set, slice_index, refl, sym, ap, ap₂, ◌∙◌, subst, ⊎_elim, arith, add-one, append_assoc, eqb-true}
use Rattle.std.proofs.lemmas.Bool.Decides.{nat_tests}
use Rattle.std.proofs.lemmas.List.{length_push, length-set, get_or-set_same, get_or-set_other}
use Rattle.localisation.specs.VertexFraction.{End}
use Rattle.localisation.specs.ClassValue.{ends_among}
use Rattle.tree_parts.specs.Ends.{ends_of}

-- what an edge of degree a gives to the vertex v
abbrev pub end_of_edge : ℕ → List ℕ → ℕ × ℕ → ℕ → List End
end_of_edge v colours e a =
    if e.0 == v then record { colour = slice_index colours e.1; degree = a } ∷ [] else
    if e.1 == v then record { colour = slice_index colours e.0; degree = a } ∷ [] else []

append-nil : (es : List End) → es ++ [] ≡ es
append-nil [] = refl
append-nil (e ∷ es) = ap (λ xs. e ∷ xs) (append-nil es)

ends-take : (v : ℕ) (colours : List ℕ) (es : List (ℕ × ℕ)) (ds : List ℕ) (i : ℕ) → i < length es → length ds ≡ length es
    → ends_among v colours (take (suc i) es) (take (suc i) ds)
    ≡ ends_among v colours (take i es) (take i ds) ++ end_of_edge v colours (get_or es i (0, 0)) (get_or ds i 0)
ends-take v colours [] ds i h k = absurd (omega arith)
ends-take v colours (e ∷ es) [] i h k = absurd (omega arith)
ends-take v colours (e ∷ es) (a ∷ ds) zero h k = append-nil (end_of_edge v colours e a)
ends-take v colours (e ∷ es) (a ∷ ds) (suc i) h k =
    ap (λ xs. end_of_edge v colours e a ++ xs) (ends-take v colours es ds i (omega arith) (omega arith))
    ∙ sym
    (append_assoc (end_of_edge v colours e a) (ends_among v colours (take i es) (take i ds)) (end_of_edge v colours (get_or es i (0, 0)) (get_or ds i 0)))

ends_of-push : (ps : List (ℕ × ℕ)) (c a : ℕ)
    → ends_of (ps ++ (c, a) ∷ []) ≡ ends_of ps ++ record { colour = c; degree = a } ∷ []
ends_of-push [] c a = refl
ends_of-push (p ∷ ps) c a = ap (λ xs. record { colour = p.0; degree = p.1 } ∷ xs) (ends_of-push ps c a)

first_end : (v : ℕ) (colours : List ℕ) (e : ℕ × ℕ) (a : ℕ) → e.0 ≡ v
    → end_of_edge v colours e a ≡ record { colour = slice_index colours e.1; degree = a } ∷ []
first_end v colours e a h = grind (arith, nat_tests)

second_end : (v : ℕ) (colours : List ℕ) (e : ℕ × ℕ) (a : ℕ) → e.0 ≢ v → e.1 ≡ v
    → end_of_edge v colours e a ≡ record { colour = slice_index colours e.0; degree = a } ∷ []
second_end v colours e a h k = grind (arith, nat_tests)

no_end : (v : ℕ) (colours : List ℕ) (e : ℕ × ℕ) (a : ℕ) → e.0 ≢ v → e.1 ≢ v → end_of_edge v colours e a ≡ []
no_end v colours e a h k = grind (arith, nat_tests)

-- ---- a table of lists with one more item in one of them
abbrev pub pushed_at : {A : Type 0} → List (List A) → ℕ → A → List (List A)
pushed_at rows u x = set rows u (get_or rows u [] ++ x ∷ [])

pub pushed_here : {A : Type 0} (rows : List (List A)) (u : ℕ) (x : A) → u < length rows
    → get_or (pushed_at rows u x) u [] ≡ get_or rows u [] ++ x ∷ []
pushed_here rows u x lt = get_or-set_same rows u (get_or rows u [] ++ x ∷ []) [] lt

pub pushed_elsewhere : {A : Type 0} (rows : List (List A)) (u v : ℕ) (x : A) → v ≢ u
    → get_or (pushed_at rows u x) v [] ≡ get_or rows v []
pushed_elsewhere rows u v x e = get_or-set_other rows u v (get_or rows u [] ++ x ∷ []) [] e

pub length-pushed_at : {A : Type 0} (rows : List (List A)) (u : ℕ) (x : A) → length (pushed_at rows u x) ≡ length rows
length-pushed_at rows u x = length-set rows u (get_or rows u [] ++ x ∷ [])

pub same_or_other : (u v : ℕ) → (v ≡ u) ⊎ (v ≢ u)
same_or_other u v = by_test (v == u) refl
  where
    by_test : (b : Bool) → (v == u) ≡ b → (v ≡ u) ⊎ (v ≢ u)
    by_test true t = inl (eqb-true v u t)
    by_test false t = inr (grind (t, arith, nat_tests))

-- ---- one edge more
abbrev after_edge : List (List (ℕ × ℕ)) → ℕ → ℕ → ℕ × ℕ → ℕ × ℕ → List (List (ℕ × ℕ))
after_edge rows u w x y = pushed_at (pushed_at rows u x) w y

at_first : (rows : List (List (ℕ × ℕ))) (u w v : ℕ) (x y : ℕ × ℕ) → u ≢ w → u < length rows → v ≡ u
    → get_or (after_edge rows u w x y) v [] ≡ get_or rows v [] ++ x ∷ []
at_first rows u w v x y apart lt is =
    subst (λ z. get_or (after_edge rows u w x y) z [] ≡ get_or rows z [] ++ x ∷ []) (sym is)
    (pushed_elsewhere (pushed_at rows u x) w u y apart ∙ pushed_here rows u x lt)

at_second : (rows : List (List (ℕ × ℕ))) (u w v : ℕ) (x y : ℕ × ℕ) → u ≢ w → w < length rows → v ≡ w
    → get_or (after_edge rows u w x y) v [] ≡ get_or rows v [] ++ y ∷ []
at_second rows u w v x y apart lt is =
    subst (λ z. get_or (after_edge rows u w x y) z [] ≡ get_or rows z [] ++ y ∷ []) (sym is)
    (pushed_here (pushed_at rows u x) w y (subst (λ n. w < n) (sym (length-pushed_at rows u x)) lt)
    ∙ ap (λ r. r ++ y ∷ []) (pushed_elsewhere rows u w x (λ e. apart (sym e))))

at_other : (rows : List (List (ℕ × ℕ))) (u w v : ℕ) (x y : ℕ × ℕ) → v ≢ u → v ≢ w
    → get_or (after_edge rows u w x y) v [] ≡ get_or rows v []
at_other rows u w v x y h k = pushed_elsewhere (pushed_at rows u x) w v y k ∙ pushed_elsewhere rows u v x h

pub edge_short : (rows new : List (List (ℕ × ℕ))) (u w v i : ℕ) (x y : ℕ × ℕ) → u ≢ w → u < length rows
    → w < length rows → new ≡ after_edge rows u w x y
    → length (get_or rows v []) ≤ i → length (get_or new v []) ≤ i + 1
edge_short rows new u w v i x y apart ul wl is h =
    subst (λ r. length (get_or r v []) ≤ i + 1) (sym is)
    (⊎_elim (λ e. one_more x (at_first rows u w v x y apart ul e))
    (λ n. ⊎_elim (λ e. one_more y (at_second rows u w v x y apart wl e)) (λ k. no_more (at_other rows u w v x y n k)) (same_or_other w v))
    (same_or_other u v))
  where
    one_more : (z : ℕ × ℕ) {zs : List (ℕ × ℕ)} → zs ≡ get_or rows v [] ++ z ∷ [] → length zs ≤ i + 1
    one_more z e = rw e (omega (arith, h, length_push (get_or rows v []) z))

    no_more : {zs : List (ℕ × ℕ)} → zs ≡ get_or rows v [] → length zs ≤ i + 1
    no_more e = rw e (omega (arith, h))

pub edge_added : (v : ℕ) (colours : List ℕ) (es : List (ℕ × ℕ)) (ds : List ℕ) (i : ℕ) (rows new : List (List (ℕ × ℕ)))
    → i < length es → length ds ≡ length es
    → (get_or es i (0, 0)).0 ≢ (get_or es i (0, 0)).1 → (get_or es i (0, 0)).0 < length rows
    → (get_or es i (0, 0)).1 < length rows
    → new ≡ after_edge rows (get_or es i (0, 0)).0 (get_or es i (0, 0)).1
    (slice_index colours (get_or es i (0, 0)).1, get_or ds i 0)
    (slice_index colours (get_or es i (0, 0)).0, get_or ds i 0)
    → ends_of (get_or rows v []) ≡ ends_among v colours (take i es) (take i ds)
    → ends_of (get_or new v []) ≡ ends_among v colours (take (i + 1) es) (take (i + 1) ds)
edge_added v colours es ds i rows new h k apart ul wl is before =
    subst (λ r. ends_of (get_or r v []) ≡ ends_among v colours (take (i + 1) es) (take (i + 1) ds)) (sym is)
    (⊎_elim (λ t. pushed (at_first rows e.0 e.1 v _ _ apart ul t) (first_end v colours e a (sym t)))
    (λ n. ⊎_elim (λ t. pushed (at_second rows e.0 e.1 v _ _ apart wl t) (second_end v colours e a (λ s. n (sym s)) (sym t)))
    (λ m. passed (at_other rows e.0 e.1 v _ _ n m) (no_end v colours e a (λ s. n (sym s)) (λ s. m (sym s))))
    (same_or_other e.1 v))
    (same_or_other e.0 v))
  where
    e : ℕ × ℕ
    e = get_or es i (0, 0)

    a : ℕ
    a = get_or ds i 0

    pushed : {ps : List (ℕ × ℕ)} {c : ℕ} → ps ≡ get_or rows v [] ++ (c, a) ∷ []
        → end_of_edge v colours e a ≡ record { colour = c; degree = a } ∷ []
        → ends_of ps ≡ ends_among v colours (take (i + 1) es) (take (i + 1) ds)
    pushed {c = c} p one =
        ap ends_of p ∙ ends_of-push (get_or rows v []) c a ∙ ap₂ (λ x y. x ++ y) before (sym one)
        ∙ sym (rw add-one (ends-take v colours es ds i h k))

    passed : {ps : List (ℕ × ℕ)} → ps ≡ get_or rows v [] → end_of_edge v colours e a ≡ []
        → ends_of ps ≡ ends_among v colours (take (i + 1) es) (take (i + 1) ds)
    passed p none =
        ap ends_of p ∙ before ∙ sym (append-nil (ends_among v colours (take i es) (take i ds)))
        ∙ ap (λ xs. ends_among v colours (take i es) (take i ds) ++ xs) (sym none)
        ∙ sym (rw add-one (ends-take v colours es ds i h k))
