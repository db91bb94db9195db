-- Counting letters and ends, one after another.
use Rattle.std.proofs.Common.{◌≡◌, ◌≢◌, ⊎_elim, ℕ, zero, suc, ◌+◌, ◌-◌, ◌<◌, ◌≤◌, Bool, true, false, ◌&&◌, ◌||◌, ◌==◌, nat_lt, if◌then◌else◌, List, [], ◌∷◌, length, drop, set, get_or, All, refl, sym, ap, ◌∙◌, subst, arith, eq-eqb, ltb-true}
use Rattle.std.specs.List.{AllByRecursion, list_all}
use Rattle.std.proofs.lemmas.List.{drop_more, get_or-set_same, get_or-set_other, length-set}
use Rattle.std.proofs.lemmas.Bool.{cases_eq, and_parts}
use Rattle.std.proofs.lemmas.List.Elements.{recursion_from_All}
use Rattle.std.proofs.lemmas.Bool.Decides.{nat_tests}
use Rattle.lists.specs.Members.{count_in}
use Rattle.trees.specs.Words.{touches, degree_of}

-- a list of numbers after a write at an index
pub get_or-set : (ds : List ℕ) (x v y : ℕ) → x < length ds → get_or (set ds x y) v 0 ≡ (if x == v then y else get_or ds v 0)
get_or-set ds x v y h = ⊎_elim
    (λ e. subst (λ (u : ℕ). get_or (set ds x y) u 0 ≡ y) e (get_or-set_same ds x y 0 h) ∙ ap (λ (b : Bool). if b then y else get_or ds v 0) (sym (eq-eqb x v e)))
    (λ ne. get_or-set_other ds x v y 0 (λ e. ne (sym e)) ∙ ap (λ (b : Bool). if b then y else get_or ds v 0) (sym (apart ne)))
    (cases_eq x v)
  where
    apart : (x ≡ v → ⊥) → (x == v) ≡ false
    apart ne = grind (arith, nat_tests)

-- a list of numbers after one more at an index
pub get_or-raised : (ds : List ℕ) (x v : ℕ) → x < length ds → get_or (set ds x (get_or ds x 0 + 1)) v 0 ≡ get_or ds v 0 + (if x == v then 1 else 0)
get_or-raised ds x v h = get_or-set ds x v (get_or ds x 0 + 1) h ∙ step x v (get_or ds x 0) (get_or ds v 0) (λ e. ap (λ u. get_or ds u 0) e)
  where
    step : (x v a b : ℕ) → (x ≡ v → a ≡ b) → (if x == v then a + 1 else b) ≡ b + (if x == v then 1 else 0)
    step x v a b h = grind (arith, nat_tests)

-- a list of numbers after 0 at one index and one less at another
pub get_or-taken_off : (ds : List ℕ) (k x v : ℕ) → k < length ds → x < length ds → k ≢ x
    → get_or (set (set ds k 0) x (get_or (set ds k 0) x 0 - 1)) v 0 ≡ (if k == v then 0 else get_or ds v 0 - (if x == v then 1 else 0))
get_or-taken_off ds k x v h l ne =
    get_or-set (set ds k 0) x v (get_or (set ds k 0) x 0 - 1) (let e = length-set ds k 0 in omega arith)
    ∙ step k x v (get_or (set ds k 0) x 0) (get_or (set ds k 0) v 0) (get_or ds x 0) (get_or ds v 0) ne (get_or-set ds k x 0 h) (get_or-set ds k v 0 h) (λ e. ap (λ u. get_or ds u 0) e)
  where
    step : (k x v a b c d : ℕ) → k ≢ x → a ≡ (if k == x then 0 else c) → b ≡ (if k == v then 0 else d) → (x ≡ v → c ≡ d)
        → (if x == v then a - 1 else b) ≡ (if k == v then 0 else d - (if x == v then 1 else 0))
    step k x v a b c d ne p q e = grind (arith, nat_tests)

-- ---- letters
pub count_in-drop : (w : List ℕ) (i v : ℕ) → i < length w → count_in v (drop i w) ≡ (if get_or w i 0 == v then 1 else 0) + count_in v (drop (i + 1) w)
count_in-drop w i v h = ap (count_in v) (drop_more w i 0 h)

pub count_in_le : (v : ℕ) (w : List ℕ) → count_in v w ≤ length w
count_in_le v [] = omega arith
count_in_le v (x ∷ w) = step (x == v) (count_in_le v w)
  where
    step : (b : Bool) → count_in v w ≤ length w → (if b then 1 else 0) + count_in v w ≤ suc (length w)
    step b h = grind arith

no_letter : (n v : ℕ) (w : List ℕ) → AllByRecursion (λ x. x < n) w → n ≤ v → count_in v w ≡ 0
no_letter n v [] h k = refl
no_letter n v (x ∷ w) h k = step x (count_in v w) h.0 (no_letter n v w h.1 k)
  where
    step : (x c : ℕ) → x < n → c ≡ 0 → (if x == v then 1 else 0) + c ≡ 0
    step x c h e = grind (arith, nat_tests)

-- what is no vertex is no letter
pub count_in_outside : (n v : ℕ) (w : List ℕ) → All (λ x. x < n) w → n ≤ v → count_in v w ≡ 0
count_in_outside n v w h k = no_letter n v w (recursion_from_All (λ x. x < n) w h) k

letter_at : (n : ℕ) (w : List ℕ) (i : ℕ) → AllByRecursion (λ x. x < n) w → i < length w → get_or w i 0 < n
letter_at n [] i h k = absurd (omega arith)
letter_at n (x ∷ w) zero h k = h.0
letter_at n (x ∷ w) (suc i) h k = letter_at n w i h.1 (omega arith)

pub letter_below : (n : ℕ) (w : List ℕ) (i : ℕ) → All (λ x. x < n) w → i < length w → get_or w i 0 < n
letter_below n w i h k = letter_at n w i (recursion_from_All (λ x. x < n) w h) k

-- ---- ends
pub degree_of-drop : (es : List (ℕ × ℕ)) (i v : ℕ) → i < length es → degree_of v (drop i es) ≡ (if touches v (get_or es i (0, 0)) then 1 else 0) + degree_of v (drop (i + 1) es)
degree_of-drop es i v h = ap (degree_of v) (drop_more es i (0, 0) h)

pub degree_of_le : (v : ℕ) (es : List (ℕ × ℕ)) → degree_of v es ≤ length es
degree_of_le v [] = omega arith
degree_of_le v (e ∷ es) = step (touches v e) (degree_of_le v es)
  where
    step : (b : Bool) → degree_of v es ≤ length es → (if b then 1 else 0) + degree_of v es ≤ suc (length es)
    step b h = grind arith

-- an edge counts at each of its two ends
pub touches_twice : (e : ℕ × ℕ) (v : ℕ) → e.0 < e.1 → (if touches v e then 1 else 0) ≡ (if e.0 == v then 1 else 0) + (if e.1 == v then 1 else 0)
touches_twice e v h = step e.0 e.1 v h
  where
    step : (a b v : ℕ) → a < b → (if (a == v) || (b == v) then 1 else 0) ≡ (if a == v then 1 else 0) + (if b == v then 1 else 0)
    step a b v h = grind (arith, nat_tests)

parts : (a b c : Bool) → ((a && b) && c) ≡ true → (a ≡ true) × (b ≡ true) × (c ≡ true)
parts true true true h = (refl, refl, refl)
parts true true false h = cc
parts true false c h = cc
parts false b c h = cc

-- the ends of an edge
pub record EndsAt (n : ℕ) (e : ℕ × ℕ) : Type 0 where
  pub upward : e.0 < e.1
  pub below : e.1 < n

pub ends_at : (n : ℕ) (es : List (ℕ × ℕ)) (i : ℕ) → list_all (λ e. nat_lt e.0 e.1 && nat_lt e.1 n) es ≡ true → i < length es → EndsAt n (get_or es i (0, 0))
ends_at n [] i h k = absurd (omega arith)
ends_at n (e ∷ es) zero h k =
    let p = parts (nat_lt e.0 e.1) (nat_lt e.1 n) (list_all (λ e. nat_lt e.0 e.1 && nat_lt e.1 n) es) h in
    record { upward = ltb-true e.0 e.1 p.0; below = ltb-true e.1 n p.1 }
ends_at n (e ∷ es) (suc i) h k =
    ends_at n es i (parts (nat_lt e.0 e.1) (nat_lt e.1 n) (list_all (λ e. nat_lt e.0 e.1 && nat_lt e.1 n) es) h).2 (omega arith)

pub upward_at : (es : List (ℕ × ℕ)) (i : ℕ) → list_all (λ e. nat_lt e.0 e.1) es ≡ true → i < length es → (get_or es i (0, 0)).0 < (get_or es i (0, 0)).1
upward_at [] i h k = absurd (omega arith)
upward_at (e ∷ es) zero h k = ltb-true e.0 e.1 (and_parts (nat_lt e.0 e.1) (list_all (λ e. nat_lt e.0 e.1) es) h).0
upward_at (e ∷ es) (suc i) h k = upward_at es i (and_parts (nat_lt e.0 e.1) (list_all (λ e. nat_lt e.0 e.1) es) h).1 (omega arith)
