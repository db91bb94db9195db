-- The first leaf, by ascending vertices and by a list of degrees.
use Rattle.std.proofs.Common.{◌≡◌, ◌≢◌, ℕ, zero, suc, ◌+◌, ◌-◌, ◌<◌, ◌≤◌, ◌⊎◌, Bool, true, false, ◌||◌, ◌==◌, if◌then◌else◌, cond, Some, None, position, List, [], ◌∷◌, ◌++◌, length, get_or, refl, sym, ap, ◌∙◌, subst, inl, inr, ⊎_elim, arith, eqb-true, eq-eqb, ltb-true}
use Rattle.std.specs.List.{position_from}
use Rattle.std.proofs.lemmas.Iterator.Adapters.{position_from-zero}
use Rattle.std.proofs.lemmas.Bool.{cases_eq}
use Rattle.std.proofs.lemmas.Bool.Decides.{nat_tests}
use Rattle.lists.specs.Ranges.{below}
use Rattle.lists.specs.Members.{is_member, without}
use Rattle.trees.proofs.FirstOrLater.{past_first}
use Rattle.trees.specs.Words.{first_leaf, first_end, degree_of}
use Rattle.lists.proofs.Different.{member_head, member_tail, member_of_without, member-below}

-- each vertex is below all that follow it
abbrev pub IsAscending : List ℕ → Type 0
IsAscending [] = Unit {0}
IsAscending (x ∷ xs) = ((y : ℕ) → is_member y xs ≡ true → x < y) × IsAscending xs

pub ascending-without : (l : ℕ) (xs : List ℕ) → IsAscending xs → IsAscending (without l xs)
ascending-without l [] h = tt
ascending-without l (x ∷ xs) h = cases (x == l) (ascending-without l xs h.1)
  where
    cases : (b : Bool) → IsAscending (without l xs) → IsAscending (if b then xs else x ∷ without l xs)
    cases true k = h.1
    cases false k = (λ y m. h.0 y (member_of_without l y xs m), k)

ascending-push : (xs : List ℕ) (y : ℕ) → IsAscending xs → ((x : ℕ) → is_member x xs ≡ true → x < y) → IsAscending (xs ++ y ∷ [])
ascending-push [] y h k = (λ z m. cc, tt)
ascending-push (x ∷ xs) y h k =
    (λ z m. ⊎_elim (λ i. h.0 z i) (λ e. subst (λ (u : ℕ). x < u) e (k x (member_head x xs))) (last xs z m), ascending-push xs y h.1 (λ z m. k z (member_tail z x xs m)))
  where
    last : (xs : List ℕ) (z : ℕ) → is_member z (xs ++ y ∷ []) ≡ true → (is_member z xs ≡ true) ⊎ (y ≡ z)
    last [] z m = inr (only z m)
      where
        only : (z : ℕ) → ((y == z) || false) ≡ true → y ≡ z
        only z m = grind (arith, nat_tests)
    last (u ∷ us) z m = pick (u == z) m (last us z)
      where
        pick : (b : Bool) → (b || is_member z (us ++ y ∷ [])) ≡ true → (is_member z (us ++ y ∷ []) ≡ true → (is_member z us ≡ true) ⊎ (y ≡ z)) → ((b || is_member z us) ≡ true) ⊎ (y ≡ z)
        pick true m f = inl refl
        pick false m f = f m

pub ascending-below : (n : ℕ) → IsAscending (below n)
ascending-below zero = tt
ascending-below (suc n) = ascending-push (below n) n (ascending-below n) (λ x m. ltb-true x n (sym (member-below x n) ∙ m))

other_member : (v k : ℕ) (vs : List ℕ) → is_member k (v ∷ vs) ≡ true → (v ≡ k → ⊥) → is_member k vs ≡ true
other_member v k vs m ne = past_first v k (is_member k vs) m ne

-- the first leaf of a word is the vertex that is no letter, while all smaller ones are letters
pub first_leaf_at : (vs ws : List ℕ) (k : ℕ) → IsAscending vs → is_member k vs ≡ true → is_member k ws ≡ false
    → ((j : ℕ) → j < k → is_member j vs ≡ true → is_member j ws ≡ true) → first_leaf vs ws ≡ k
first_leaf_at [] ws k a m absent before = cc
first_leaf_at (v ∷ vs) ws k a m absent before =
    cases (is_member v ws) refl (λ i. first_leaf_at vs ws k a.1 i absent (λ j less i. before j less (member_tail j v vs i)))
  where
    cases : (b : Bool) → is_member v ws ≡ b → (is_member k vs ≡ true → first_leaf vs ws ≡ k) → (if b then first_leaf vs ws else v) ≡ k
    cases true e rest = rest (other_member v k vs m (λ same. absurd (let x : true ≡ false = sym e ∙ ap (λ z. is_member z ws) same ∙ absent in cc)))
    cases false e rest = ⊎_elim (λ same. same)
        (λ ne. absurd (let x : true ≡ false = sym (before v (a.0 k (other_member v k vs m ne)) (member_head v vs)) ∙ e in cc)) (cases_eq v k)

-- the first end of edges is the vertex with one edge, while no smaller one has one edge
pub first_end_at : (vs : List ℕ) (es : List (ℕ × ℕ)) (k : ℕ) → IsAscending vs → is_member k vs ≡ true → degree_of k es ≡ 1
    → ((j : ℕ) → j < k → is_member j vs ≡ true → degree_of j es ≢ 1) → first_end vs es ≡ k
first_end_at [] es k a m one before = cc
first_end_at (v ∷ vs) es k a m one before =
    cases (degree_of v es == 1) refl (λ i. first_end_at vs es k a.1 i one (λ j less i. before j less (member_tail j v vs i)))
  where
    cases : (b : Bool) → (degree_of v es == 1) ≡ b → (is_member k vs ≡ true → first_end vs es ≡ k) → (if b then v else first_end vs es) ≡ k
    cases true e rest = ⊎_elim (λ same. same)
        (λ ne. absurd (before v (a.0 k (other_member v k vs m ne)) (member_head v vs) (eqb-true (degree_of v es) 1 e))) (cases_eq v k)
    cases false e rest = rest (other_member v k vs m (λ same. absurd (let x : true ≡ false = sym (eq-eqb (degree_of v es) 1 (ap (λ z. degree_of z es) same ∙ one)) ∙ e in cc)))

-- ---- by a list of degrees
-- the first index that holds 1
pub record IsFirstOne (ds : List ℕ) (k : ℕ) : Type 0 where
  pub below : k < length ds
  pub is : get_or ds k 0 ≡ 1
  pub before : (j : ℕ) → j < k → get_or ds j 0 ≢ 1

one_from : (ds : List ℕ) (i k : ℕ) → position_from (λ d. d == 1) i ds ≡ Some k → (i ≤ k) × IsFirstOne ds (k - i)
one_from [] i k h = cc
one_from (d ∷ ds) i k h = cases (d == 1) refl h (one_from ds (i + 1) k)
  where
    some_is : {a b : ℕ} → Some a ≡ Some b → a ≡ b
    some_is e = cc

    apart : (d == 1) ≡ false → d ≢ 1
    apart e same = absurd (let x : true ≡ false = sym (eq-eqb d 1 same) ∙ e in cc)

    at_once : (m : ℕ) → m ≡ 0 → d ≡ 1 → IsFirstOne (d ∷ ds) m
    at_once m e one = rw e (record { below = omega arith; is = one; before = λ j less. absurd (omega arith) })

    early : (m j : ℕ) → d ≢ 1 → IsFirstOne ds m → j < suc m → get_or (d ∷ ds) j 0 ≢ 1
    early m zero ne f less = ne
    early m (suc j) ne f less = f.before j (omega arith)

    later : (m n : ℕ) → n ≡ suc m → d ≢ 1 → IsFirstOne ds m → IsFirstOne (d ∷ ds) n
    later m n e ne f = rw e (record { below = (let b = f.below in omega arith); is = f.is; before = λ j less. early m j ne f less })

    cases : (b : Bool) → (d == 1) ≡ b → cond b (Some i) (position_from (λ d. d == 1) (i + 1) ds) ≡ Some k
        → (position_from (λ d. d == 1) (i + 1) ds ≡ Some k → (i + 1 ≤ k) × IsFirstOne ds (k - (i + 1))) → (i ≤ k) × IsFirstOne (d ∷ ds) (k - i)
    cases true e h rest = let same : i ≡ k = some_is h in (omega arith, at_once (k - i) (omega arith) (eqb-true d 1 e))
    cases false e h rest = let r = rest h in let least = r.0 in (omega arith, later (k - (i + 1)) (k - i) (omega arith) (apart e) r.1)

none_from : (ds : List ℕ) (i : ℕ) → position_from (λ d. d == 1) i ds ≡ None → (v : ℕ) → get_or ds v 0 ≢ 1
none_from [] i h v = λ e. absurd (omega arith)
none_from (d ∷ ds) i h v = cases (d == 1) refl v h (none_from ds (i + 1))
  where
    cases : (b : Bool) → (d == 1) ≡ b → (v : ℕ) → cond b (Some i) (position_from (λ d. d == 1) (i + 1) ds) ≡ None
        → (position_from (λ d. d == 1) (i + 1) ds ≡ None → (v : ℕ) → get_or ds v 0 ≢ 1) → get_or (d ∷ ds) v 0 ≢ 1
    cases true e v h rest = absurd (let never : Some i ≡ None = h in cc)
    cases false e zero h rest = λ same. absurd (let x : true ≡ false = sym (eq-eqb d 1 same) ∙ e in cc)
    cases false e (suc v) h rest = rest h v

pub first_one : (ds : List ℕ) (k : ℕ) → Some k ≡ position (λ d. d == 1) ds → IsFirstOne ds k
first_one ds k h = subst (IsFirstOne ds) (let e : k - 0 ≡ k = omega arith in e) (one_from ds 0 k (sym (h ∙ position_from-zero (λ d. d == 1) ds))).1

pub no_one : (ds : List ℕ) → None ≡ position (λ d. d == 1) ds → (v : ℕ) → get_or ds v 0 ≢ 1
no_one ds h = none_from ds 0 (sym (h ∙ position_from-zero (λ d. d == 1) ds))
