-- What `quotient` gives, said of a fraction.
use Rattle.std.proofs.Common.{◌≡◌, ◌≢◌, ℕ, ◌*◌, ◌%◌, ◌<◌, ◌↔◌, Result, Ok, Err, IfOk, IsErr, nat_abs, ℤ, pos, sym, ap, ◌∙◌, subst, arith}
use Rattle.residue.specs.declared.errors.NoUnit.{NoUnit}
use Rattle.arithmetic.specs.Numbers.{gcd, Leaves}
use Rattle.arithmetic.specs.Fractions.{Fraction, fraction, IsResidue}
use Rattle.residue.specs.Answers.{GivesResidue}
use Rattle.arithmetic.proofs.Residues.{IsResidue-from, IsResidue-whole, gcd-reduce, unit_one}

pub quotient_value : {m t b : ℕ} (f : Fraction) (r : Result ℕ NoUnit) → Leaves m f.top t → Leaves m f.bottom b
    → IfOk r (λ _. gcd b m ≡ 1) → IfOk r (λ x. (x < m) × ((x * b) % m ≡ t)) → IfOk r (λ x. IsResidue m f x)
quotient_value {m} {t} {b} f (Ok x) p q u v = let h = p.below in IsResidue-from m f x t b (omega arith) (sym p.is) (sym q.is) v.0 u v.1
quotient_value f (Err e) p q u v = tt

pub quotient_refused : {m b : ℕ} (f : Fraction) (r : Result ℕ NoUnit) → Leaves m f.bottom b
    → (IsErr r ↔ (gcd b m ≢ 1)) → (IsErr r ↔ (gcd (nat_abs f.bottom) m ≢ 1))
quotient_refused {m} {b} f r q k = let h = q.below in subst (λ g. IsErr r ↔ (g ≢ 1)) (ap (λ n. gcd n m) q.is ∙ gcd-reduce m f.bottom (omega arith)) k

-- the quotient of the residues of the top and the bottom
pub quotient_gives : {m t b : ℕ} (f : Fraction) (r : Result ℕ NoUnit) → Leaves m f.top t → Leaves m f.bottom b
    → (IsErr r ↔ (gcd b m ≢ 1)) → IfOk r (λ _. gcd b m ≡ 1) → IfOk r (λ x. (x < m) × ((x * b) % m ≡ t)) → GivesResidue m f r
quotient_gives f r p q k u v = record { value = quotient_value f r p q u v; refused = quotient_refused f r q k }

-- a whole number, over 1
pub whole_gives : {m x : ℕ} (z : ℤ) → Leaves m z x → GivesResidue m (fraction z (pos 1)) (Ok x)
whole_gives {m} z l = record { value = IsResidue-whole z l; refused = (λ h. cc, λ h. absurd (h (unit_one m))) }
