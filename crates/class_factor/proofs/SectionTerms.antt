-- The factors of the parts of classes at an edge are the terms of progressions.
use Rattle.std.proofs.Common.{◌≡◌, ℕ, ◌+◌, ◌-◌, ◌≤◌, List, ℤ, pos, ◌+ℤ◌, ◌-ℤ◌, ◌*ℤ◌, neg_ℤ, ap, ◌∙◌, arith}
use Rattle.std.proofs.lemmas.Int.{ints}
use Rattle.arithmetic.specs.Numbers.{product_below, progression}
use Rattle.arithmetic.proofs.Progressions.{product_below-same, between-progression, progression-suc, times_difference}
use Rattle.localisation.specs.Weights.{weight}
use Rattle.localisation.specs.ClassValue.{section_term, inner_term, negated_inner_term, sections_product, inner_product, negated_inner_product}

between : (n t : ℕ) (x y : ℤ) → t ≤ n → pos t *ℤ x +ℤ pos (n - t) *ℤ y ≡ progression (pos n *ℤ y) (x -ℤ y) t
between n t x y h =
    let whole : t + (n - t) ≡ n = omega arith in
    between-progression t (n - t) x y ∙ ap (λ k. progression (pos k *ℤ y) (x -ℤ y) t) whole

-- one step further on
further : (z d : ℤ) (t : ℕ) → progression z d (t + 1) ≡ progression (z +ℤ d) d t
further z d t = let more = progression-suc z d t in omega (arith, ints, more)

-- the negatives
turned : (z x y : ℤ) (t : ℕ) → neg_ℤ (progression (z +ℤ (x -ℤ y)) (x -ℤ y) t) ≡ progression ((y -ℤ x) -ℤ z) (y -ℤ x) t
turned z x y t =
    let one = times_difference (pos t) x y in
    let two = times_difference (pos t) y x in
    omega (arith, ints, one, two)

pub sections_product-progression : (ws : List ℤ) (i j n : ℕ)
    → sections_product ws i j n
    ≡ product_below (n + 1) (progression (pos n *ℤ weight ws j) (weight ws i -ℤ weight ws j))
unfolding sections_product
sections_product-progression ws i j n =
    product_below-same (n + 1) (section_term ws i j n) _ (λ t h. between n t (weight ws i) (weight ws j) (omega arith))

pub inner_product-progression : (ws : List ℤ) (i j n : ℕ)
    → inner_product ws i j n
    ≡ product_below (n - 1) (progression (pos n *ℤ weight ws j +ℤ (weight ws i -ℤ weight ws j)) (weight ws i -ℤ weight ws j))
unfolding inner_product
inner_product-progression ws i j n =
    product_below-same (n - 1) (inner_term ws i j n) _
    (λ t h. between n (t + 1) (weight ws i) (weight ws j) (omega arith) ∙ further (pos n *ℤ weight ws j) (weight ws i -ℤ weight ws j) t)

pub negated_inner_product-progression : (ws : List ℤ) (i j n : ℕ)
    → negated_inner_product ws i j n
    ≡ product_below (n - 1) (progression ((weight ws j -ℤ weight ws i) -ℤ pos n *ℤ weight ws j) (weight ws j -ℤ weight ws i))
unfolding negated_inner_product
negated_inner_product-progression ws i j n =
    product_below-same (n - 1) (negated_inner_term ws i j n) _
    (λ t h. ap neg_ℤ (between n (t + 1) (weight ws i) (weight ws j) (omega arith) ∙ further (pos n *ℤ weight ws j) (weight ws i -ℤ weight ws j) t)
    ∙ turned (pos n *ℤ weight ws j) (weight ws i) (weight ws j) t)
