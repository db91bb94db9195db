-- Sums of fractions that are never reduced: they may be cut anywhere.
use Rattle.std.proofs.Common.{◌≡◌, List, [], ◌∷◌, ◌++◌, ℤ, pos, ◌+ℤ◌, ◌*ℤ◌, sym, ap, ap₂, ◌∙◌}
use Rattle.std.proofs.Math.IntN.{*ℤ-one, *ℤ_comm, zero-*ℤ, +ℤ_idl, +ℤ_idr, +ℤ_assoc}
use Rattle.arithmetic.specs.Fractions.{Fraction, fraction, times, plus, sum_of_fractions}
use Rattle.arithmetic.proofs.IntegerLaws.{*ℤ_assoc, *ℤ-+ℤ}

pub *ℤ-pos-one : (z : ℤ) → z *ℤ pos 1 ≡ z
unfolding lib.IntN.one
*ℤ-pos-one z = *ℤ-one z

pub one-*ℤ : (z : ℤ) → pos 1 *ℤ z ≡ z
one-*ℤ z = *ℤ_comm (pos 1) z ∙ *ℤ-pos-one z

-- a factor moves from the start to the end
turn : (x y z : ℤ) → x *ℤ (y *ℤ z) ≡ y *ℤ (z *ℤ x)
turn x y z = *ℤ_comm x (y *ℤ z) ∙ *ℤ_assoc y z x

-- the second factor comes first
pub second_first : (x y z : ℤ) → x *ℤ (y *ℤ z) ≡ y *ℤ (x *ℤ z)
second_first x y z = turn x y z ∙ ap (λ w. y *ℤ w) (*ℤ_comm z x)

-- the first and the last factor change places
ends_change : (x y z : ℤ) → x *ℤ (y *ℤ z) ≡ z *ℤ (y *ℤ x)
ends_change x y z = turn x y z ∙ turn y z x ∙ ap (λ w. z *ℤ w) (*ℤ_comm x y)

pub plus-assoc : (f g h : Fraction) → plus (plus f g) h ≡ plus f (plus g h)
plus-assoc f g h =
    ap₂ fraction
    (ap (λ z. z +ℤ h.top *ℤ (f.bottom *ℤ g.bottom)) (*ℤ_comm (f.top *ℤ g.bottom +ℤ g.top *ℤ f.bottom) h.bottom
    ∙ *ℤ-+ℤ h.bottom (f.top *ℤ g.bottom) (g.top *ℤ f.bottom)
    ∙ ap₂ (λ u v. u +ℤ v) (turn h.bottom f.top g.bottom) (ends_change h.bottom g.top f.bottom))
    ∙ ap (λ z. f.top *ℤ (g.bottom *ℤ h.bottom) +ℤ f.bottom *ℤ (g.top *ℤ h.bottom) +ℤ z) (second_first h.top f.bottom g.bottom)
    ∙ +ℤ_assoc (f.top *ℤ (g.bottom *ℤ h.bottom)) (f.bottom *ℤ (g.top *ℤ h.bottom)) (f.bottom *ℤ (h.top *ℤ g.bottom))
    ∙ ap (λ z. f.top *ℤ (g.bottom *ℤ h.bottom) +ℤ z) (sym (*ℤ-+ℤ f.bottom (g.top *ℤ h.bottom) (h.top *ℤ g.bottom))
    ∙ *ℤ_comm f.bottom (g.top *ℤ h.bottom +ℤ h.top *ℤ g.bottom)))
    (*ℤ_assoc f.bottom g.bottom h.bottom)

pub plus-zero : (f : Fraction) → plus f (fraction (pos 0) (pos 1)) ≡ f
plus-zero f = ap₂ fraction (ap₂ (λ u v. u +ℤ v) (*ℤ-pos-one f.top) (zero-*ℤ f.bottom) ∙ +ℤ_idr f.top) (*ℤ-pos-one f.bottom)

pub zero-plus : (f : Fraction) → plus (fraction (pos 0) (pos 1)) f ≡ f
zero-plus f = ap₂ fraction (ap₂ (λ u v. u +ℤ v) (zero-*ℤ f.bottom) (*ℤ-pos-one f.top) ∙ +ℤ_idl f.top) (one-*ℤ f.bottom)

pub times-one : (f : Fraction) → times f (fraction (pos 1) (pos 1)) ≡ f
times-one f = ap₂ fraction (*ℤ-pos-one f.top) (*ℤ-pos-one f.bottom)

-- the sum of two lists one after the other
pub sum_of_fractions-append : (fs gs : List Fraction) → sum_of_fractions (fs ++ gs) ≡ plus (sum_of_fractions fs) (sum_of_fractions gs)
sum_of_fractions-append [] gs = sym (zero-plus (sum_of_fractions gs))
sum_of_fractions-append (f ∷ fs) gs =
    ap (plus f) (sum_of_fractions-append fs gs) ∙ sym (plus-assoc f (sum_of_fractions fs) (sum_of_fractions gs))
