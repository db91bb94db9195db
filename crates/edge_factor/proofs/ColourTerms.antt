-- The factors of one colour at an edge are the terms of a progression.
use Rattle.std.proofs.Common.{◌≡◌, ℕ, ◌+◌, ◌-◌, ◌≤◌, List, ℤ, pos, ◌+ℤ◌, ◌-ℤ◌, ◌*ℤ◌, ap, ◌∙◌, arith}
use Rattle.std.proofs.lemmas.Int.{ints}
use Rattle.arithmetic.specs.Numbers.{product_below, progression}
use Rattle.arithmetic.proofs.Progressions.{product_below-same, between-progression, times_difference}
use Rattle.localisation.specs.Weights.{weight}
use Rattle.localisation.specs.EdgeFraction.{colour_term, colour_product}

term_is : (a t : ℕ) (x y z : ℤ) → t ≤ a
    → (pos t *ℤ x +ℤ pos (a - t) *ℤ y) -ℤ pos a *ℤ z ≡ progression (pos a *ℤ (y -ℤ z)) (x -ℤ y) t
term_is a t x y z h =
    let whole : t + (a - t) ≡ a = omega arith in
    let between : pos t *ℤ x +ℤ pos (a - t) *ℤ y ≡ pos a *ℤ y +ℤ pos t *ℤ (x -ℤ y) =
    between-progression t (a - t) x y ∙ ap (λ n. progression (pos n *ℤ y) (x -ℤ y) t) whole in
    let first = times_difference (pos a) y z in
    omega (arith, ints, between, first)

pub colour_product-progression : (ws : List ℤ) (i j a k : ℕ)
    → colour_product ws i j a k
    ≡ product_below (a + 1) (progression (pos a *ℤ (weight ws j -ℤ weight ws k)) (weight ws i -ℤ weight ws j))
unfolding colour_product
colour_product-progression ws i j a k =
    product_below-same (a + 1) (colour_term ws i j a k) _
    (λ t h. term_is a t (weight ws i) (weight ws j) (weight ws k) (omega arith))
