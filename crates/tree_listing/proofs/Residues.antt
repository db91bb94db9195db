-- The residue of a fraction is the only number that `IsResidue` says to be one, and there is none exactly if the bottom is
-- no unit.
use Rattle.std.proofs.Common.{◌≡◌, ◌≢◌, ℕ, zero, suc, ◌*◌, ◌%◌, ◌<◌, ◌⊎◌, inl, inr, Bool, true, false, ◌==◌, not, if◌then◌else◌, Option, Some, None, nat_abs, sym, ap, ◌∙◌, refl, arith, mul_comm, ⊎_elim}
use Rattle.std.proofs.lemmas.Bool.{false≢true, cases_lt, eqb-true, ne_eqb}
use Rattle.std.proofs.lemmas.Option.{same_Some}
use Rattle.std.proofs.lemmas.Nat.Gcd.{dvd_of_mod-eq-zero, mod-eq-zero_of_dvd}
use Rattle.std.proofs.Math.Nat.{mod-eq_of_lt}
use Rattle.arithmetic.specs.Numbers.{gcd, reduce}
use Rattle.arithmetic.specs.Fractions.{Fraction, IsResidue}
use Rattle.arithmetic.proofs.Divisors.{cancel_unit}
use Rattle.arithmetic.proofs.Residues.{gcd-reduce, residue_equation}
use Rattle.localisation.specs.Agreement.{lacks_residue}
use Rattle.tree_listing.specs.Residues.{is_quotient, quotient_below, residue_of}

-- a fraction has at most one residue
residue_once : (m : ℕ) (f : Fraction) (x y : ℕ) → IsResidue m f x → IsResidue m f y → x ≡ y
residue_once m f x y p q =
    let some : 0 < m = positive p.below in
    let b = reduce m f.bottom in
    let unit : gcd b m ≡ 1 = gcd-reduce m f.bottom some ∙ p.unit in
    let products : (b * x) % m ≡ (b * y) % m =
    ap (λ z. z % m) (mul_comm b x) ∙ residue_equation m f x some p ∙ sym (residue_equation m f y some q) ∙ ap (λ z. z % m) (mul_comm y b) in
    let same = cancel_unit m b x y some unit (record { is = products }) in
    sym (mod-eq_of_lt p.below) ∙ same.is ∙ mod-eq_of_lt q.below
  where
    positive : x < m → 0 < m
    positive h = omega (arith, h)

-- ---- the numbers below n
picked : (b : Bool) (n x : ℕ) (rest : Option ℕ) → (b ≡ true → n ≡ x) → (b ≡ false → rest ≡ Some x) → (if b then Some n else rest) ≡ Some x
picked true n x rest p q = ap Some (p refl)
picked false n x rest p q = q refl

quotient_is : (m n : ℕ) (f : Fraction) (x : ℕ) → is_quotient m f x ≡ true → x < n
    → ((y : ℕ) → is_quotient m f y ≡ true → y < n → y ≡ x) → quotient_below m f n ≡ Some x
unfolding quotient_below
quotient_is m zero f x is below only = absurd (omega arith)
quotient_is m (suc n) f x is below only =
    picked (is_quotient m f n) n x (quotient_below m f n) (λ e. only n e (omega arith))
    (λ e. quotient_is m n f x is (earlier e) (λ y t l. only y t (omega arith)))
  where
    earlier : is_quotient m f n ≡ false → x < n
    earlier e =
        ⊎_elim (λ l. l)
        (λ l. let same : x ≡ n = omega arith in absurd (false≢true (sym e ∙ sym (ap (is_quotient m f) same) ∙ is)))
        (cases_lt x n)

found : (b : Bool) (n x : ℕ) (rest : Option ℕ) → (if b then Some n else rest) ≡ Some x → ((b ≡ true) × (n ≡ x)) ⊎ (rest ≡ Some x)
found true n x rest e = inl (refl, same_Some n x e)
found false n x rest e = inr e

is_found : (m n : ℕ) (f : Fraction) (x : ℕ) → quotient_below m f n ≡ Some x → (x < n) × (is_quotient m f x ≡ true)
unfolding quotient_below
is_found m zero f x e = absurd (let bad : ⊥ = cc in bad)
is_found m (suc n) f x e =
    ⊎_elim (λ h. (let same = h.1 in omega arith, sym (ap (is_quotient m f) h.1) ∙ h.0))
    (λ h. let earlier = is_found m n f x h in let below = earlier.0 in (omega arith, earlier.1))
    (found (is_quotient m f n) n x (quotient_below m f n) e)

-- ---- the residue
is_quotient_of : (m : ℕ) (f : Fraction) (x : ℕ) → IsResidue m f x → is_quotient m f x ≡ true
is_quotient_of m f x r = ap (λ n. n == 0) (mod-eq-zero_of_dvd m r.divides)

has_unit : (m : ℕ) (f : Fraction) → lacks_residue m f ≡ false → gcd (nat_abs f.bottom) m ≡ 1
has_unit m f e = eqb-true (gcd (nat_abs f.bottom) m) 1 (turned (gcd (nat_abs f.bottom) m == 1) e)
  where
    turned : (b : Bool) → not b ≡ false → b ≡ true
    turned true e = refl
    turned false e = absurd (false≢true (sym e))

residue_made : (m : ℕ) (f : Fraction) (x : ℕ) → lacks_residue m f ≡ false → x < m → is_quotient m f x ≡ true → IsResidue m f x
residue_made m f x unit below is =
    record { below = below; unit = has_unit m f unit; divides = dvd_of_mod-eq-zero m (eqb-true _ 0 is) }

pub residue_is : (m : ℕ) (f : Fraction) (x : ℕ) → IsResidue m f x → residue_of m f ≡ Some x
unfolding residue_of
residue_is m f x r =
    let unit : lacks_residue m f ≡ false = ap (λ n. not (n == 1)) r.unit in
    ap (λ b. if b then None else quotient_below m f m) unit
    ∙ quotient_is m m f x (is_quotient_of m f x r) r.below (λ y t l. residue_once m f y x (residue_made m f y unit l t) r)

pub residue_is_none : (m : ℕ) (f : Fraction) → gcd (nat_abs f.bottom) m ≢ 1 → residue_of m f ≡ None
unfolding residue_of
residue_is_none m f none = ap (λ b. if b then None else quotient_below m f m) (ap not (ne_eqb (gcd (nat_abs f.bottom) m) 1 none))

pub is_residue : (m : ℕ) (f : Fraction) (x : ℕ) → residue_of m f ≡ Some x → IsResidue m f x
unfolding residue_of
is_residue m f x e = by_unit (lacks_residue m f) refl e
  where
    by_unit : (b : Bool) → lacks_residue m f ≡ b → (if b then None else quotient_below m f m) ≡ Some x → IsResidue m f x
    by_unit true u e = absurd (let bad : ⊥ = cc in bad)
    by_unit false u e = let h = is_found m m f x e in residue_made m f x u h.0 h.1
