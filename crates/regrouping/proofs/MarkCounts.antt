-- A power at each vertex, once for each mark there, is a product over the marks.
use Rattle.std.proofs.Common.{◌≡◌, ℕ, zero, suc, ◌+◌, ◌-◌, ◌<◌, Bool, true, false, ◌==◌, if◌then◌else◌, List, [], ◌∷◌, length, filter, map, slice_index, refl, ap, ap₂, ◌∙◌, arith}
use Rattle.arithmetic.specs.Fractions.{Fraction, times, product_of_fractions, power_of_fraction}
use Rattle.lists.specs.Ranges.{counted_from}
use Rattle.regrouping.specs.Spread.{over}
use Rattle.regrouping.specs.TreeParts.{AllBelow}
use Rattle.regrouping.proofs.EdgeProducts.{pick, over-none, over-times, over-same, over-pick}
use Rattle.regrouping.proofs.ParentPowers.{one_child}

abbrev pub count_of : List ℕ → ℕ → ℕ
count_of [] v = 0
count_of (x ∷ xs) v = (if x == v then 1 else 0) + count_of xs v

pub over-counts : (n : ℕ) (f : ℕ → Fraction) (vs : List ℕ) → AllBelow n vs
    → over n (λ v. power_of_fraction (f v) (count_of vs v)) ≡ product_of_fractions (map f vs)
over-counts n f [] h = over-none n
over-counts n f (x ∷ vs) h =
    over-same n _ _ (λ v. one_child (f v) (x == v) (count_of vs v))
    ∙ over-times n (pick x f) (λ v. power_of_fraction (f v) (count_of vs v))
    ∙ ap₂ times (over-pick n x f h.0) (over-counts n f vs h.1)

-- the marks at a vertex, which are found by their places, are as many as the entries that name it
counted : (p : ℕ → Bool) (q : ℕ → Bool) (a b n : ℕ) → ((i : ℕ) → i < n → p (a + i) ≡ q (b + i))
    → length (filter p (counted_from a n)) ≡ length (filter q (counted_from b n))
counted p q a b zero h = refl
counted p q a b (suc n) h =
    step (p a) (q b) _ _ (counted p q (suc a) (suc b) n (λ i l. ap p (let e : suc a + i ≡ a + suc i = omega arith in e) ∙ h (suc i) (omega arith)
    ∙ ap q (let e : b + suc i ≡ suc b + i = omega arith in e)))
    (ap p (let e : a ≡ a + 0 = omega arith in e) ∙ h 0 (omega arith) ∙ ap q (let e : b + 0 ≡ b = omega arith in e))
  where
    step : (x y : Bool) (xs ys : List ℕ) → length xs ≡ length ys → x ≡ y → length (if x then a ∷ xs else xs) ≡ length (if y then b ∷ ys else ys)
    step x y xs ys e f = grind (arith, e, f)

pub length-places : (xs : List ℕ) (v : ℕ) → length (filter (λ j. slice_index xs (j - 1) == v) (counted_from 1 (length xs))) ≡ count_of xs v
length-places [] v = refl
length-places (x ∷ xs) v =
    step (x == v) (filter (λ j. slice_index (x ∷ xs) (j - 1) == v) (counted_from 2 (length xs))) (count_of xs v)
    (counted (λ j. slice_index (x ∷ xs) (j - 1) == v) (λ j. slice_index xs (j - 1) == v) 2 1 (length xs)
    (λ i l. ap (λ k. slice_index (x ∷ xs) k == v) (let e : 2 + i - 1 ≡ suc i = omega arith in e)
    ∙ ap (λ k. slice_index xs k == v) (let e : i ≡ 1 + i - 1 = omega arith in e))
    ∙ length-places xs v)
  where
    step : (b : Bool) (ys : List ℕ) (k : ℕ) → length ys ≡ k → length (if b then 1 ∷ ys else ys) ≡ (if b then 1 else 0) + k
    step true ys k h = omega (arith, h)
    step false ys k h = omega (arith, h)
