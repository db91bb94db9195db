-- The cases of the fraction of a vertex, by its tip and its flags.
use Rattle.std.proofs.Common.{◌≡◌, ◌≢◌, ℕ, suc, ◌+◌, ◌-◌, List, [], ◌∷◌, length, sum, ℤ, pos, ◌-ℤ◌, ◌*ℤ◌, neg_ℤ, refl, sym, ap, ap₂, ◌∙◌, arith}
use Rattle.std.proofs.lemmas.Int.{ints}
use Rattle.arithmetic.specs.Numbers.{power}
use Rattle.arithmetic.specs.Fractions.{fraction, times, power_of_fraction}
use Rattle.arithmetic.proofs.FractionSums.{*ℤ-pos-one, one-*ℤ}
use Rattle.localisation.specs.Weights.{weight, tangent_product}
use Rattle.localisation.specs.VertexFraction.{End, product_of_differences, product_of_degrees, crossed_sum, plain_vertex, psi_vertex, vertex_fraction, multinomial}
use Rattle.vertex_factor.specs.Ends.{end}
use Rattle.vertex_factor.proofs.PlainLaws.{plain-stable}
use Rattle.vertex_factor.proofs.PsiLaws.{one_end_one_mark, within_dimension, negated_difference}
use Rattle.factor_table.specs.Factors.{tip_fraction}
use Rattle.table_sum.specs.Ends.{power_at_ends}
use Rattle.table_sum.proofs.FlagLaws.{power_at_ends-is}

-- a stable vertex without exponents
pub stable-is : (ws : List ℤ) (c : ℕ) (es : List End) (t n : ℕ) → length es + t ≡ n + 3
    → power_at_ends ws c es n ≡ plain_vertex ws c es t
stable-is ws c es t n e =
    power_at_ends-is ws c es n
    ∙ ap₂
    (λ i j. fraction (power (tangent_product ws c) (length es - 1) *ℤ product_of_degrees es *ℤ power (crossed_sum ws c es) i) (power (product_of_differences ws c es) j))
    (let l : n ≡ length es + t - 3 = omega arith in l) (let l : suc n ≡ length es + t - 2 = omega arith in l)
    ∙ sym (plain-stable ws c es t (omega arith))

-- .. and with them
pub stable_psi-is : (ws : List ℤ) (c : ℕ) (es : List End) (ks : List ℕ) (s n ways : ℕ) → length es ≡ s
    → s + length ks ≡ n + 3 + sum ks → sum ks ≢ 0
    → ways ≡ multinomial (s + length ks - 3) ks
    → times (power_at_ends ws c es n) (fraction (pos ways) (pos 1)) ≡ vertex_fraction ws c es ks
stable_psi-is ws c es ks s n ways count e some ways_are =
    let k = pos ways in
    ap (λ f. times f (fraction k (pos 1))) (power_at_ends-is ws c es n)
    ∙ ap
    (fraction (power (tangent_product ws c) (length es - 1) *ℤ product_of_degrees es *ℤ power (crossed_sum ws c es) n *ℤ k))
    (*ℤ-pos-one (power (product_of_differences ws c es) (suc n)))
    ∙ ap₂
    (λ i j. fraction (power (tangent_product ws c) (length es - 1) *ℤ product_of_degrees es *ℤ power (crossed_sum ws c es) i *ℤ k) (power (product_of_differences ws c es) j))
    (let l : n ≡ length es + length ks - 3 - sum ks = omega arith in l)
    (let l : suc n ≡ length es + length ks - 2 - sum ks = omega arith in l)
    ∙ ap
    (λ w. fraction (power (tangent_product ws c) (length es - 1) *ℤ product_of_degrees es *ℤ power (crossed_sum ws c es) (length es + length ks - 3 - sum ks) *ℤ pos w)
    (power (product_of_differences ws c es) (length es + length ks - 2 - sum ks))) (ways_are
    ∙ ap (λ j. multinomial (j + length ks - 3) ks) (sym count))
    ∙ sym (within_dimension ws c es ks (omega arith) some (omega arith))

turned : (x y : ℤ) → (pos 0 -ℤ pos 1) *ℤ (x -ℤ y) ≡ y -ℤ x
turned x y = omega (arith, ints)

-- one end and no mark: the tip, with its sign changed
pub leaf-is : (ws : List ℤ) (c u a : ℕ)
    → times (fraction (pos 0 -ℤ pos 1) (pos 1)) (tip_fraction ws c u a) ≡ plain_vertex ws c (end u a ∷ []) 0
unfolding plain_vertex
leaf-is ws c u a = ap₂ fraction (turned (weight ws u) (weight ws c)) (one-*ℤ (pos a))

psi_tip : (ws : List ℤ) (c : ℕ) (e : End) (k : ℕ)
    → fraction (power (neg_ℤ (weight ws c -ℤ weight ws e.colour)) k) (power (pos e.degree) k)
    ≡ psi_vertex ws c (e ∷ []) (k ∷ [])
unfolding psi_vertex
psi_tip ws c e k = refl

-- one end and one mark with an exponent: a power of the tip
pub tip_power-is : (ws : List ℤ) (c : ℕ) (es : List End) (ks : List ℕ) (u a k : ℕ) → es ≡ end u a ∷ [] → length ks ≡ 1
    → k ≡ sum ks → k ≢ 0
    → power_of_fraction (tip_fraction ws c u a) k ≡ vertex_fraction ws c es ks
tip_power-is ws c es ks u a k one one_mark e some =
    ap (λ z. fraction (power z k) (power (pos a) k)) (sym (negated_difference (weight ws c) (weight ws u)))
    ∙ psi_tip ws c (end u a) k ∙ sym (one_end_one_mark ws c es ks (end u a) k one one_mark e some)
