-- The crossed sum over the ends at a vertex, with one end more at the front.
use Rattle.std.proofs.Common.{◌≡◌, ℕ, zero, suc, List, [], ◌∷◌, ◌++◌, length, map, remove, ℤ, pos, ◌+ℤ◌, ◌*ℤ◌, refl, sym, ap, ap₂, ◌∙◌, arith}
use Rattle.std.proofs.lemmas.Int.{ints}
use Rattle.std.proofs.Math.IntN.{*ℤ-zero}
use Rattle.arithmetic.specs.Numbers.{integer_sum}
use Rattle.arithmetic.proofs.IntegerLaws.{*ℤ-+ℤ}
use Rattle.arithmetic.proofs.FractionSums.{second_first}
use Rattle.lists.specs.Ranges.{below}
use Rattle.localisation.specs.VertexFraction.{End, difference, product_of_differences, crossed_sum, degree_at}

-- ---- sums over the numbers below n
total-push : (us : List ℕ) (u : ℕ) (f : ℕ → ℤ) → integer_sum (map f (us ++ u ∷ [])) ≡ integer_sum (map f us) +ℤ f u
total-push [] u f = omega (arith, ints)
total-push (v ∷ us) u f = let h = total-push us u f in omega (arith, ints, h)

total-first : (n : ℕ) (f : ℕ → ℤ) → integer_sum (map f (below (suc n))) ≡ f 0 +ℤ integer_sum (map (λ u. f (suc u)) (below n))
total-first zero f = refl
total-first (suc n) f =
    let h = total-first n f in
    let left = total-push (below (suc n)) (suc n) f in
    let right = total-push (below n) n (λ u. f (suc u)) in
    omega (arith, ints, h, left, right)

total-same : (us : List ℕ) (f g : ℕ → ℤ) → ((u : ℕ) → f u ≡ g u) → integer_sum (map f us) ≡ integer_sum (map g us)
total-same [] f g h = refl
total-same (u ∷ us) f g h = ap₂ (λ x y. x +ℤ y) (h u) (total-same us f g h)

total-times : (us : List ℕ) (d : ℤ) (g : ℕ → ℤ) → integer_sum (map (λ u. d *ℤ g u) us) ≡ d *ℤ integer_sum (map g us)
total-times [] d g = sym (*ℤ-zero d)
total-times (u ∷ us) d g = ap (λ z. d *ℤ g u +ℤ z) (total-times us d g) ∙ sym (*ℤ-+ℤ d (g u) (integer_sum (map g us)))

-- ---- the crossed sum
pub crossed-cons : (ws : List ℤ) (c : ℕ) (e : End) (es : List End)
    → crossed_sum ws c (e ∷ es) ≡ pos e.degree *ℤ product_of_differences ws c es +ℤ difference ws c e *ℤ crossed_sum ws c es
crossed-cons ws c e es =
    total-first (length es) (λ u. pos (degree_at (e ∷ es) u) *ℤ product_of_differences ws c (remove (e ∷ es) u))
    ∙ ap (λ z. pos e.degree *ℤ product_of_differences ws c es +ℤ z)
    (total-same (below (length es)) _ _ (λ u. second_first (pos (degree_at es u)) (difference ws c e) (product_of_differences ws c (remove es u)))
    ∙ total-times (below (length es)) (difference ws c e) (λ u. pos (degree_at es u) *ℤ product_of_differences ws c (remove es u)))
