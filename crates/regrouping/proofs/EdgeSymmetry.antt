-- The fractions at an edge do not depend on the order of its ends.
use Rattle.std.proofs.Common.{◌≡◌, ℕ, zero, suc, ◌+◌, ◌-◌, ◌*◌, Bool, true, false, ◌==◌, ◌||◌, if◌then◌else◌, List, length, ℤ, pos, ◌+ℤ◌, ◌-ℤ◌, ◌*ℤ◌, neg_ℤ, refl, sym, ap, ap₂, ◌∙◌, arith}
use Rattle.std.proofs.lemmas.Int.{ints}
use Rattle.std.proofs.Math.IntN.{*ℤ_comm, +ℤ_comm}
use Rattle.arithmetic.specs.Numbers.{power, product_below, factorial}
use Rattle.arithmetic.specs.Fractions.{fraction}
use Rattle.arithmetic.proofs.IntegerLaws.{*ℤ_assoc}
use Rattle.arithmetic.proofs.Progressions.{product_below-same, times_difference}
use Rattle.classes.specs.declared.class.Class.{Class}
use Rattle.classes.specs.declared.class.Class.TheVariants.{Mark, Hypersurface, Incidence, R1, Contact, Psi}
use Rattle.localisation.specs.Weights.{weight, between_weights}
use Rattle.localisation.specs.EdgeFraction.{colour_term, colour_product, colour_factor, other_colours_product, edge_top, edge_bottom, edge_fraction}
use Rattle.localisation.specs.ClassValue.{section_term, inner_term, negated_inner_term, sections_product, inner_product, negated_inner_product, class_edge}

product_below-front : (n : ℕ) (f : ℕ → ℤ) → product_below (suc n) f ≡ f 0 *ℤ product_below n (λ t. f (suc t))
product_below-front zero f = *ℤ_comm (pos 1) (f 0)
product_below-front (suc n) f = ap (λ z. z *ℤ f (suc n)) (product_below-front n f) ∙ *ℤ_assoc (f 0) (product_below n (λ t. f (suc t))) (f (suc n))

pub product_below-reversed : (n : ℕ) (f g : ℕ → ℤ) → ((t u : ℕ) → t + suc u ≡ n → f t ≡ g u) → product_below n f ≡ product_below n g
product_below-reversed zero f g h = refl
product_below-reversed (suc n) f g h =
    ap₂ (λ x y. x *ℤ y) (product_below-reversed n f (λ u. g (suc u)) (λ t u e. h t (suc u) (omega arith))) (h n 0 (omega arith))
    ∙ *ℤ_comm (product_below n (λ u. g (suc u))) (g 0) ∙ sym (product_below-front n g)

between-swapped : (ws : List ℤ) (i j n t u : ℕ) → t + u ≡ n → between_weights ws i j t (n - t) ≡ between_weights ws j i u (n - u)
between-swapped ws i j n t u e =
    +ℤ_comm (pos t *ℤ weight ws i) (pos (n - t) *ℤ weight ws j)
    ∙ ap₂ (λ a b. pos a *ℤ weight ws j +ℤ pos b *ℤ weight ws i) (let l : n - t ≡ u = omega arith in l) (let l : t ≡ n - u = omega arith in l)

pub sections-swapped : (ws : List ℤ) (i j n : ℕ) → sections_product ws i j n ≡ sections_product ws j i n
unfolding sections_product
sections-swapped ws i j n =
    product_below-reversed (n + 1) (section_term ws i j n) (section_term ws j i n) (λ t u e. between-swapped ws i j n t u (omega arith))

pub inner-swapped : (ws : List ℤ) (i j n : ℕ) → inner_product ws i j n ≡ inner_product ws j i n
unfolding inner_product
inner-swapped ws i j n =
    product_below-reversed (n - 1) (inner_term ws i j n) (inner_term ws j i n) (λ t u e. between-swapped ws i j n (t + 1) (u + 1) (omega arith))

pub negated-swapped : (ws : List ℤ) (i j n : ℕ) → negated_inner_product ws i j n ≡ negated_inner_product ws j i n
unfolding negated_inner_product
negated-swapped ws i j n =
    product_below-reversed (n - 1) (negated_inner_term ws i j n) (negated_inner_term ws j i n)
    (λ t u e. ap neg_ℤ (between-swapped ws i j n (t + 1) (u + 1) (omega arith)))

colours-swapped : (ws : List ℤ) (i j a k : ℕ) → colour_product ws i j a k ≡ colour_product ws j i a k
unfolding colour_product
colours-swapped ws i j a k =
    product_below-reversed (a + 1) (colour_term ws i j a k) (colour_term ws j i a k)
    (λ t u e. ap (λ z. z -ℤ pos a *ℤ weight ws k) (between-swapped ws i j a t u (omega arith)))

others-swapped : (ws : List ℤ) (i j a : ℕ) → other_colours_product ws i j a ≡ other_colours_product ws j i a
unfolding other_colours_product
others-swapped ws i j a =
    product_below-same (length ws) (colour_factor ws i j a) (colour_factor ws j i a) (λ k l. either (k == i) (k == j) _ _ (colours-swapped ws i j a k))
  where
    either : (p q : Bool) (x y : ℤ) → x ≡ y → (if p || q then pos 1 else x) ≡ (if q || p then pos 1 else y)
    either true true x y e = refl
    either true false x y e = refl
    either false true x y e = refl
    either false false x y e = e

-- the same square
square : (x y : ℤ) → (x -ℤ y) *ℤ (x -ℤ y) ≡ (y -ℤ x) *ℤ (y -ℤ x)
square x y =
    let a = times_difference (x -ℤ y) x y in
    let b = times_difference (y -ℤ x) y x in
    let c = times_difference x x y in
    let d = times_difference y x y in
    let e = times_difference x y x in
    let f = times_difference y y x in
    let g = *ℤ_comm (x -ℤ y) x in
    let h = *ℤ_comm (x -ℤ y) y in
    let i = *ℤ_comm (y -ℤ x) x in
    let j = *ℤ_comm (y -ℤ x) y in
    omega (arith, ints, a, b, c, d, e, f, g, h, i, j)

power-squares : (z : ℤ) (n : ℕ) → power z (2 * n) ≡ power (z *ℤ z) n
power-squares z zero = refl
power-squares z (suc n) =
    ap (power z) (let l : 2 * suc n ≡ suc (suc (2 * n)) = omega arith in l)
    ∙ *ℤ_assoc (power z (2 * n)) z z ∙ ap (λ y. y *ℤ (z *ℤ z)) (power-squares z n)

even_power : (x y : ℤ) (n : ℕ) → power (x -ℤ y) (2 * n) ≡ power (y -ℤ x) (2 * n)
even_power x y n = power-squares (x -ℤ y) n ∙ ap (λ z. power z n) (square x y) ∙ sym (power-squares (y -ℤ x) n)

pub edge_fraction-swapped : (ws : List ℤ) (i j a : ℕ) → edge_fraction ws i j a ≡ edge_fraction ws j i a
unfolding edge_bottom
edge_fraction-swapped ws i j a =
    ap (fraction (edge_top ws a))
    (ap₂ (λ x y. pos a *ℤ power (pos (factorial a)) 2 *ℤ x *ℤ y) (even_power (weight ws i) (weight ws j) a) (others-swapped ws i j a))

pub class_edge-swapped : (ws : List ℤ) (class : Class) (i j a : ℕ) → class_edge ws class i j a ≡ class_edge ws class j i a
class_edge-swapped ws (Hypersurface b) i j a = ap (λ z. fraction z (power (pos a) (b * a + 1))) (sections-swapped ws i j (b * a))
class_edge-swapped ws (R1 k) i j a = ap (λ z. fraction z (power (pos a) (k * a - 1))) (negated-swapped ws i j (k * a))
class_edge-swapped ws Contact i j a = ap (λ z. fraction z (power (pos a) (2 * a - 1))) (inner-swapped ws i j (2 * a))
class_edge-swapped ws (Mark k) i j a = refl
class_edge-swapped ws (Incidence q) i j a = refl
class_edge-swapped ws (Psi k) i j a = refl
