-- Laws of the sums and products over the ends at a vertex.
use Rattle.std.proofs.Common.{◌≡◌, ℕ, List, [], ◌∷◌, ◌++◌, ℤ, pos, ◌+ℤ◌, ◌*ℤ◌, sym, ap, ap₂, ◌∙◌, arith}
use Rattle.std.proofs.lemmas.Int.{ints}
use Rattle.std.proofs.Math.IntN.{*ℤ_comm}
use Rattle.arithmetic.proofs.IntegerLaws.{*ℤ_assoc, *ℤ-+ℤ}
use Rattle.arithmetic.proofs.FractionSums.{second_first}
use Rattle.arithmetic.proofs.Progressions.{times-+ℤ}
use Rattle.localisation.proofs.CrossedSums.{crossed-cons}
use Rattle.localisation.specs.VertexFraction.{End, difference, product_of_differences, product_of_degrees, crossed_sum}

-- ---- products, with one factor more at the end
one_more : (x y z : ℤ) → x *ℤ (y *ℤ z) ≡ x *ℤ y *ℤ z
one_more x y z = sym (*ℤ_assoc x y z)

pub degrees-push : (es : List End) (e : End) → product_of_degrees (es ++ e ∷ []) ≡ product_of_degrees es *ℤ pos e.degree
degrees-push [] e = *ℤ_comm (pos e.degree) (pos 1)
degrees-push (x ∷ es) e =
    ap (λ z. pos x.degree *ℤ z) (degrees-push es e) ∙ one_more (pos x.degree) (product_of_degrees es) (pos e.degree)

pub differences-push : (ws : List ℤ) (c : ℕ) (es : List End) (e : End)
    → product_of_differences ws c (es ++ e ∷ []) ≡ product_of_differences ws c es *ℤ difference ws c e
differences-push ws c [] e = *ℤ_comm (difference ws c e) (pos 1)
differences-push ws c (x ∷ es) e = ap (λ z. difference ws c x *ℤ z) (differences-push ws c es e)
    ∙ one_more (difference ws c x) (product_of_differences ws c es) (difference ws c e)

-- ---- the crossed sum
regrouped : (ax b dx cr de ae : ℤ)
    → ax *ℤ (b *ℤ de) +ℤ dx *ℤ (cr *ℤ de +ℤ ae *ℤ b) ≡ (ax *ℤ b +ℤ dx *ℤ cr) *ℤ de +ℤ ae *ℤ (dx *ℤ b)
regrouped ax b dx cr de ae =
    let first = one_more ax b de in
    let spread = *ℤ-+ℤ dx (cr *ℤ de) (ae *ℤ b) in
    let second = one_more dx cr de in
    let third = second_first dx ae b in
    let whole = times-+ℤ (ax *ℤ b) (dx *ℤ cr) de in
    omega (arith, ints, first, spread, second, third, whole)

pub crossed-push : (ws : List ℤ) (c : ℕ) (es : List End) (e : End)
    → crossed_sum ws c (es ++ e ∷ [])
    ≡ crossed_sum ws c es *ℤ difference ws c e +ℤ pos e.degree *ℤ product_of_differences ws c es
crossed-push ws c [] e =
    let one = crossed-cons ws c e [] in
    let none = *ℤ_comm (pos 0) (difference ws c e) in
    omega (arith, ints, one, none)
crossed-push ws c (x ∷ es) e =
    crossed-cons ws c x (es ++ e ∷ [])
    ∙ ap₂ (λ y z. pos x.degree *ℤ y +ℤ difference ws c x *ℤ z) (differences-push ws c es e) (crossed-push ws c es e)
    ∙ regrouped (pos x.degree) (product_of_differences ws c es) (difference ws c x) (crossed_sum ws c es)
    (difference ws c e) (pos e.degree)
    ∙ ap (λ z. z *ℤ difference ws c e +ℤ pos e.degree *ℤ (difference ws c x *ℤ product_of_differences ws c es))
    (sym (crossed-cons ws c x es))
