-- Digits and numbers correspond.
use Rattle.std.proofs.Common.{◌≡◌, ℕ, zero, suc, ◌+◌, ◌*◌, ◌/◌, ◌%◌, ◌<◌, List, [], ◌∷◌, ◌++◌, length, take, drop, replicate, refl, sym, ap, ap₂, ◌∙◌, subst, ⊎_elim, arith}
use Rattle.std.proofs.lemmas.Nat.{div-mul-add, mod-mul-add, div_below, mul-add-lt}
use Rattle.std.proofs.Math.Nat.{div-add-mod, mod-lt}
use Rattle.lists.specs.Members.{IsIn, here, there}
use Rattle.lists.specs.Digits.{product_of, joined, split, AreDigits}
use Rattle.lists.proofs.Members.{nothing_in, in_cons}

pub split-joined : (bs xs : List ℕ) → AreDigits bs xs → (joined bs xs < product_of bs) × (split bs (joined bs xs) ≡ xs)
split-joined [] [] h = (omega arith, refl)
split-joined [] (x ∷ xs) h = absurd h
split-joined (b ∷ bs) [] h = absurd h
split-joined (b ∷ bs) (x ∷ xs) h =
    let r = split-joined bs xs h.1 in
    let p = product_of bs in
    let j = joined bs xs in (
      place x b p j h.0 r.0,
      ap₂ (λ (q : ℕ) (ds : List ℕ). q ∷ ds) (div-mul-add x p j r.0) (ap (split bs) (mod-mul-add x p j r.0) ∙ r.1),
    )
  where
    place : (x b p j : ℕ) → x < b → j < p → x * p + j < b * p
    place x b p j h k = grind (arith, mul-add-lt)

pub joined-split : (bs : List ℕ) (k : ℕ) → k < product_of bs → AreDigits bs (split bs k) × (joined bs (split bs k) ≡ k)
joined-split [] k h = (tt, omega arith)
joined-split (b ∷ bs) k h =
    let p = product_of bs in
    let some : 0 < p = positive b p k h in
    let r = joined-split bs (k % p) (mod-lt k some) in
    ((div_below k p b some h, r.0), ap (λ n. k / p * p + n) r.1 ∙ back k p)
  where
    positive : (b p k : ℕ) → k < b * p → 0 < p
    positive b zero k h = omega arith
    positive b (suc p) k h = omega arith

    back : (k p : ℕ) → k / p * p + k % p ≡ k
    back k p = omega (arith, div-add-mod k p)

-- ---- digits one after the other
pub digits_split : (bs cs ds : List ℕ) → AreDigits (bs ++ cs) ds → AreDigits bs (take (length bs) ds) × AreDigits cs (drop (length bs) ds)
digits_split [] cs ds h = (tt, h)
digits_split (b ∷ bs) cs [] h = absurd h
digits_split (b ∷ bs) cs (x ∷ ds) h = let r = digits_split bs cs ds h.1 in ((h.0, r.0), r.1)

pub digits_join : (bs cs xs ys : List ℕ) → AreDigits bs xs → AreDigits cs ys → AreDigits (bs ++ cs) (xs ++ ys)
digits_join [] cs [] ys h k = k
digits_join [] cs (x ∷ xs) ys h k = absurd h
digits_join (b ∷ bs) cs [] ys h k = absurd h
digits_join (b ∷ bs) cs (x ∷ xs) ys h k = (h.0, digits_join bs cs xs ys h.1 k)

-- digits that have the same base
pub digits_same : (k b : ℕ) (ds : List ℕ) → AreDigits (replicate k b) ds → (length ds ≡ k) × ((x : ℕ) → IsIn x ds → x < b)
digits_same zero b [] h = (refl, λ x i. absurd (nothing_in i))
digits_same zero b (x ∷ ds) h = absurd h
digits_same (suc k) b [] h = absurd h
digits_same (suc k) b (x ∷ ds) h =
    let r = digits_same k b ds h.1 in
    (ap suc r.0, λ y i. ⊎_elim (λ e. subst (λ z. z < b) (sym e) h.0) (λ j. r.1 y j) (in_cons i))

pub same_digits : (k b : ℕ) (ds : List ℕ) → length ds ≡ k → ((x : ℕ) → IsIn x ds → x < b) → AreDigits (replicate k b) ds
same_digits zero b [] e f = tt
same_digits zero b (x ∷ ds) e f = absurd (omega arith)
same_digits (suc k) b [] e f = absurd (omega arith)
same_digits (suc k) b (x ∷ ds) e f = (f x here, same_digits k b ds (omega arith) (λ y i. f y (there i)))
