-- The product and the sum of the flags at a vertex.
use Rattle.std.proofs.Common.{◌≡◌, ℕ, zero, suc, ◌+◌, ◌-◌, ◌<◌, List, [], ◌∷◌, ◌++◌, length, take, get_or, ℤ, pos, ◌+ℤ◌, ◌*ℤ◌, refl, sym, ap, ap₂, ◌∙◌}
use Rattle.std.proofs.Math.IntN.{*ℤ_comm}
use Rattle.std.proofs.lemmas.List.{map_more}
use Rattle.arithmetic.specs.Numbers.{power}
use Rattle.arithmetic.specs.Fractions.{fraction, times, plus, power_of_fraction}
use Rattle.arithmetic.proofs.FractionProducts.{times-assoc, one-times}
use Rattle.arithmetic.proofs.FractionSums.{one-*ℤ, times-one, plus-zero, zero-plus, plus-assoc}
use Rattle.localisation.specs.Weights.{tangent_product}
use Rattle.localisation.specs.VertexFraction.{End, difference, product_of_differences, product_of_degrees, crossed_sum}
use Rattle.vertex_factor.specs.Ends.{end, ends_of}
use Rattle.localisation.proofs.CrossedSums.{crossed-cons}
use Rattle.table_sum.specs.Ends.{flag_at, product_of_flags, sum_of_flags, tangent_power, power_at_ends}

-- ---- one flag more
product-push : (ws : List ℤ) (c : ℕ) (es : List End) (e : End)
    → product_of_flags ws c (es ++ e ∷ []) ≡ times (product_of_flags ws c es) (flag_at ws c e)
product-push ws c [] e = times-one (flag_at ws c e) ∙ sym (one-times (flag_at ws c e))
product-push ws c (x ∷ es) e =
    ap (times (flag_at ws c x)) (product-push ws c es e)
    ∙ sym (times-assoc (flag_at ws c x) (product_of_flags ws c es) (flag_at ws c e))

sum-push : (ws : List ℤ) (c : ℕ) (es : List End) (e : End)
    → sum_of_flags ws c (es ++ e ∷ []) ≡ plus (sum_of_flags ws c es) (flag_at ws c e)
sum-push ws c [] e = plus-zero (flag_at ws c e) ∙ sym (zero-plus (flag_at ws c e))
sum-push ws c (x ∷ es) e =
    ap (plus (flag_at ws c x)) (sum-push ws c es e)
    ∙ sym (plus-assoc (flag_at ws c x) (sum_of_flags ws c es) (flag_at ws c e))

ends-more : (ps : List (ℕ × ℕ)) (i u a : ℕ) → i < length ps → u ≡ (get_or ps i (0, 0)).0 → a ≡ (get_or ps i (0, 0)).1
    → ends_of (take (i + 1) ps) ≡ ends_of (take i ps) ++ end u a ∷ []
ends-more ps i u a h p q =
    map_more (λ e. end e.0 e.1) ps i (0, 0) h ∙ ap₂ (λ v d. ends_of (take i ps) ++ end v d ∷ []) (sym p) (sym q)

pub product-more : (ws : List ℤ) (c : ℕ) (ps : List (ℕ × ℕ)) (i u a : ℕ) → i < length ps → u ≡ (get_or ps i (0, 0)).0
    → a ≡ (get_or ps i (0, 0)).1
    → product_of_flags ws c (ends_of (take (i + 1) ps))
    ≡ times (product_of_flags ws c (ends_of (take i ps))) (flag_at ws c (end u a))
product-more ws c ps i u a h p q =
    ap (product_of_flags ws c) (ends-more ps i u a h p q) ∙ product-push ws c (ends_of (take i ps)) (end u a)

pub sum-more : (ws : List ℤ) (c : ℕ) (ps : List (ℕ × ℕ)) (i u a : ℕ) → i < length ps → u ≡ (get_or ps i (0, 0)).0
    → a ≡ (get_or ps i (0, 0)).1
    → sum_of_flags ws c (ends_of (take (i + 1) ps))
    ≡ plus (sum_of_flags ws c (ends_of (take i ps))) (flag_at ws c (end u a))
sum-more ws c ps i u a h p q =
    ap (sum_of_flags ws c) (ends-more ps i u a h p q) ∙ sum-push ws c (ends_of (take i ps)) (end u a)

-- ---- what they are, in whole numbers
product-is : (ws : List ℤ) (c : ℕ) (es : List End)
    → product_of_flags ws c es ≡ fraction (product_of_degrees es) (product_of_differences ws c es)
product-is ws c [] = refl
product-is ws c (e ∷ es) = ap (times (flag_at ws c e)) (product-is ws c es)

sum-is : (ws : List ℤ) (c : ℕ) (es : List End)
    → sum_of_flags ws c es ≡ fraction (crossed_sum ws c es) (product_of_differences ws c es)
sum-is ws c [] = refl
sum-is ws c (e ∷ es) =
    ap (plus (flag_at ws c e)) (sum-is ws c es)
    ∙ ap₂ fraction
    (ap (λ z. pos e.degree *ℤ product_of_differences ws c es +ℤ z) (*ℤ_comm (crossed_sum ws c es) (difference ws c e)) ∙ sym (crossed-cons ws c e es)) refl

power-of_one : (n : ℕ) → power (pos 1) n ≡ pos 1
power-of_one zero = refl
power-of_one (suc n) = ap (λ z. z *ℤ pos 1) (power-of_one n)

tangent-is : (ws : List ℤ) (c s : ℕ) → tangent_power ws c s ≡ fraction (power (tangent_product ws c) (s - 1)) (pos 1)
tangent-is ws c s = ap (fraction (power (tangent_product ws c) (s - 1))) (power-of_one (s - 1))

-- the power at the ends, in whole numbers
pub power_at_ends-is : (ws : List ℤ) (c : ℕ) (es : List End) (n : ℕ)
    → power_at_ends ws c es n
    ≡ fraction (power (tangent_product ws c) (length es - 1) *ℤ product_of_degrees es *ℤ power (crossed_sum ws c es) n)
    (power (product_of_differences ws c es) (suc n))
power_at_ends-is ws c es n =
    ap₂ times (ap₂ times (tangent-is ws c (length es)) (product-is ws c es))
    (ap (λ f. power_of_fraction f n) (sum-is ws c es))
    ∙ ap
    (fraction (power (tangent_product ws c) (length es - 1) *ℤ product_of_degrees es *ℤ power (crossed_sum ws c es) n))
    (ap (λ z. z *ℤ power (product_of_differences ws c es) n) (one-*ℤ (product_of_differences ws c es))
    ∙ *ℤ_comm (product_of_differences ws c es) (power (product_of_differences ws c es) n))
