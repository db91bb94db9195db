-- Sums of fractions that are never reduced do not depend on the order.
use Rattle.std.proofs.Common.{◌≡◌, ℕ, zero, suc, ◌<◌, List, [], ◌∷◌, length, get_or, set, pos, ◌*ℤ◌, refl, sym, ap, ap₂, ◌∙◌, ⊎_elim, arith, IsPermutation, get_or-set_other}
use Rattle.std.proofs.Math.IntN.{*ℤ_comm, +ℤ_comm}
use Rattle.std.proofs.lemmas.Bool.{cases_eq}
use Rattle.std.proofs.lemmas.List.{set_comm, set-get_or}
use Rattle.std.proofs.lemmas.List.Edits.{swap_is}
use Rattle.std.proofs.lemmas.List.Sorted.{IsPermutation-keeps}
use Rattle.arithmetic.specs.Fractions.{Fraction, fraction, plus, sum_of_fractions}
use Rattle.arithmetic.proofs.FractionSums.{plus-assoc, zero-plus}

pub plus-comm : (f g : Fraction) → plus f g ≡ plus g f
plus-comm f g = ap₂ fraction (+ℤ_comm (f.top *ℤ g.bottom) (g.top *ℤ f.bottom)) (*ℤ_comm f.bottom g.bottom)

-- the second summand comes first
plus-second_first : (f g h : Fraction) → plus f (plus g h) ≡ plus g (plus f h)
plus-second_first f g h = sym (plus-assoc f g h) ∙ ap (λ z. plus z h) (plus-comm f g) ∙ plus-assoc g f h

abbrev none : Fraction
none = fraction (pos 0) (pos 1)

-- an entry is added to what the others give
sum-set : (fs : List Fraction) (i : ℕ) (f : Fraction) → i < length fs → sum_of_fractions (set fs i f) ≡ plus f (sum_of_fractions (set fs i none))
sum-set [] i f h = absurd (omega arith)
sum-set (g ∷ fs) zero f h = ap (plus f) (sym (zero-plus (sum_of_fractions fs)))
sum-set (g ∷ fs) (suc i) f h = ap (plus g) (sum-set fs i f (omega arith)) ∙ plus-second_first g f (sum_of_fractions (set fs i none))

length-set_one : (fs : List Fraction) (i : ℕ) (f : Fraction) → length (set fs i f) ≡ length fs
length-set_one [] i f = refl
length-set_one (g ∷ fs) zero f = refl
length-set_one (g ∷ fs) (suc i) f = ap suc (length-set_one fs i f)

-- an entry and what the others give
sum-at : (fs : List Fraction) (i : ℕ) → i < length fs → sum_of_fractions fs ≡ plus (get_or fs i none) (sum_of_fractions (set fs i none))
sum-at fs i h = ap sum_of_fractions (sym (set-get_or fs i none)) ∙ sum-set fs i (get_or fs i none) h

-- two entries change places
sum-exchanged : (fs : List Fraction) (i j : ℕ) → i < length fs → j < length fs
    → sum_of_fractions (set (set fs i (get_or fs j none)) j (get_or fs i none)) ≡ sum_of_fractions fs
sum-exchanged fs i j h k = ⊎_elim (λ e. same e) (λ ne. other ne) (cases_eq i j)
  where
    same : i ≡ j → sum_of_fractions (set (set fs i (get_or fs j none)) j (get_or fs i none)) ≡ sum_of_fractions fs
    same e =
        ap (λ n. sum_of_fractions (set (set fs i (get_or fs n none)) n (get_or fs i none))) (sym e)
        ∙ ap (λ gs. sum_of_fractions (set gs i (get_or fs i none))) (set-get_or fs i none) ∙ ap sum_of_fractions (set-get_or fs i none)

    other : (i ≡ j → ⊥) → sum_of_fractions (set (set fs i (get_or fs j none)) j (get_or fs i none)) ≡ sum_of_fractions fs
    other ne =
        let x = get_or fs i none in
        let y = get_or fs j none in
        let long = length-set_one fs i y in
        let long_too = length-set_one fs j none in
        let long_first = length-set_one fs i none in
        let rest = sum_of_fractions (set (set fs j none) i none) in
        sum-set (set fs i y) j x (omega arith)
        ∙ ap (λ gs. plus x (sum_of_fractions gs)) (set_comm fs i j y none ne)
        ∙ ap (plus x) (sum-set (set fs j none) i y (omega arith))
        ∙ ap (λ gs. plus x (plus y (sum_of_fractions gs))) (sym (set_comm fs i j none none ne))
        ∙ ap (λ z. plus x (plus z (sum_of_fractions (set (set fs i none) j none)))) (sym (get_or-set_other fs i j none none (λ e. ne (sym e))))
        ∙ ap (plus x) (sym (sum-at (set fs i none) j (omega arith)))
        ∙ sym (sum-at fs i h)

pub sum_of_fractions-IsPermutation : (fs gs : List Fraction) → IsPermutation fs gs → sum_of_fractions gs ≡ sum_of_fractions fs
sum_of_fractions-IsPermutation fs gs =
    IsPermutation-keeps fs (λ hs. sum_of_fractions hs ≡ sum_of_fractions fs) refl
    (λ hs i j h k e. ap sum_of_fractions (sym (swap_is hs i j none h k)) ∙ sum-exchanged hs i j h k ∙ e) gs
