-- Products of fractions that are never reduced, with one factor more at the end.
use Rattle.std.proofs.Common.{◌≡◌, List, [], ◌∷◌, ◌++◌, ℤ, pos, ◌+ℤ◌, sym, ap, ap₂, ◌∙◌}
use Rattle.std.proofs.Math.IntN.{+ℤ_idl, +ℤ_idr, +ℤ_assoc}
use Rattle.arithmetic.specs.Numbers.{integer_sum}
use Rattle.arithmetic.specs.Fractions.{Fraction, fraction, times, product_of_fractions}
use Rattle.arithmetic.proofs.IntegerLaws.{*ℤ_assoc}
use Rattle.arithmetic.proofs.FractionSums.{one-*ℤ, times-one}

pub times-assoc : (f g h : Fraction) → times (times f g) h ≡ times f (times g h)
times-assoc f g h = ap₂ fraction (*ℤ_assoc f.top g.top h.top) (*ℤ_assoc f.bottom g.bottom h.bottom)

pub one-times : (f : Fraction) → times (fraction (pos 1) (pos 1)) f ≡ f
one-times f = ap₂ fraction (one-*ℤ f.top) (one-*ℤ f.bottom)

pub product_of_fractions-push : (fs : List Fraction) (f : Fraction) → product_of_fractions (fs ++ f ∷ []) ≡ times (product_of_fractions fs) f
product_of_fractions-push [] f = times-one f ∙ sym (one-times f)
product_of_fractions-push (g ∷ fs) f = ap (times g) (product_of_fractions-push fs f) ∙ sym (times-assoc g (product_of_fractions fs) f)

pub total-push : (zs : List ℤ) (z : ℤ) → integer_sum (zs ++ z ∷ []) ≡ integer_sum zs +ℤ z
total-push [] z = +ℤ_idr z ∙ sym (+ℤ_idl z)
total-push (y ∷ zs) z = ap (λ x. y +ℤ x) (total-push zs z) ∙ sym (+ℤ_assoc y (integer_sum zs) z)
