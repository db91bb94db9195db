-- Residues of fractions: the steps that code takes.
use Rattle.std.proofs.Common.{◌≡◌, ℕ, zero, suc, ◌+◌, ◌-◌, ◌*◌, ◌%◌, ◌^◌, ◌<◌, pos, ◌-ℤ◌, ◌*ℤ◌, refl, sym, ap, subst, ◌∙◌, arith}
use Rattle.std.proofs.lemmas.Int.{ints}
use Rattle.std.proofs.lemmas.Nat.{mul-mod_first}
use Rattle.std.proofs.Math.Nat.{mod-eq_of_lt, pow-suc, pow-zero}
use Rattle.arithmetic.specs.Numbers.{reduce, Leaves}
use Rattle.arithmetic.specs.Fractions.{Fraction, fraction, times, plus, power_of_fraction, IsResidue}
use Rattle.arithmetic.proofs.Modular.{Leaves-pos, Leaves-sub, Leaves-mul}
use Rattle.arithmetic.proofs.Residues.{IsResidue-whole, IsResidue-times, IsResidue-plus}

pub residue_is : {m : ℕ} {f : Fraction} {x r : ℕ} → IsResidue m f x → r ≡ x → IsResidue m f r
residue_is {m} {f} {x} {r} h e = subst (IsResidue m f) (sym e) h

pub residue_times : {m : ℕ} {f g : Fraction} {x y r : ℕ} → 1 < m → IsResidue m f x → IsResidue m g y → r ≡ (x * y) % m
    → IsResidue m (times f g) r
residue_times {m} {f} {g} {x} {y} above p q e = residue_is (IsResidue-times m f g x y above p q) e

pub residue_plus : {m : ℕ} {f g : Fraction} {x y r : ℕ} → 1 < m → IsResidue m f x → IsResidue m g y → r ≡ (x + y) % m
    → IsResidue m (plus f g) r
residue_plus {m} {f} {g} {x} {y} above p q e = residue_is (IsResidue-plus m f g x y above p q) e

residue_of_power : (m : ℕ) (f : Fraction) (x n : ℕ) → 1 < m → IsResidue m f x
    → IsResidue m (power_of_fraction f n) ((x ^ n) % m)
residue_of_power m f x zero above h =
    let some : 0 < m = omega arith in
    IsResidue-whole (pos 1) (Leaves-pos m 1 ((x ^ 0) % m) some (ap (λ k. k % m) (pow-zero x)))
residue_of_power m f x (suc n) above h =
    residue_times above (residue_of_power m f x n above h) h
    (ap (λ k. k % m) (pow-suc x n) ∙ sym (mul-mod_first (x ^ n) x m))

pub residue_power : {m : ℕ} {f : Fraction} {x r : ℕ} (n : ℕ) → 1 < m → IsResidue m f x → r ≡ (x ^ n) % m
    → IsResidue m (power_of_fraction f n) r
residue_power {m} {f} {x} n above h e = residue_is (residue_of_power m f x n above h) e

-- the number with its sign changed
turned : (x : ℕ) → pos 0 -ℤ pos x ≡ (pos 0 -ℤ pos 1) *ℤ pos x
turned x = omega (arith, ints)

pub residue_negated : {m x z r : ℕ} {f : Fraction} → 1 < m → IsResidue m f x → Leaves m (pos 0) z
    → r ≡ (z + (m - x)) % m
    → IsResidue m (times (fraction (pos 0 -ℤ pos 1) (pos 1)) f) r
residue_negated {m} {x} {z} {r} above h zero_is e =
    let some : 0 < m = omega arith in
    let own = Leaves-pos m x x some (sym (mod-eq_of_lt h.below)) in
    let minus =
    Leaves-sub (Leaves-pos m 0 0 some (sym (mod-eq_of_lt some)))
    (Leaves-pos m 1 1 some (sym (mod-eq_of_lt above))) refl in
    let product = Leaves-mul minus own refl in
    let difference = Leaves-sub zero_is own e in
    residue_times above (IsResidue-whole (pos 0 -ℤ pos 1) minus) h
    (difference.is ∙ ap (reduce m) (turned x) ∙ sym product.is)

-- ---- factors and powers that cost nothing
pub one_times : (x y m : ℕ) → x ≡ 1 → y < m → y ≡ (x * y) % m
one_times x y m e h = sym (ap (λ k. (k * y) % m) e ∙ ap (λ k. k % m) (let l : 1 * y ≡ y = omega arith in l) ∙ mod-eq_of_lt h)

pub times_one : (x y m : ℕ) → y ≡ 1 → x < m → x ≡ (x * y) % m
times_one x y m e h = sym (ap (λ k. (x * k) % m) e ∙ ap (λ k. k % m) (let l : x * 1 ≡ x = omega arith in l) ∙ mod-eq_of_lt h)

pub power_none : (x n m : ℕ) → n ≡ 0 → 1 < m → 1 ≡ (x ^ n) % m
power_none x n m e h = sym (ap (λ k. (x ^ k) % m) e ∙ ap (λ k. k % m) (pow-zero x) ∙ mod-eq_of_lt h)

pub power_one : (x n m : ℕ) → n ≡ 1 → x < m → x ≡ (x ^ n) % m
power_one x n m e h =
    sym (ap (λ k. (x ^ k) % m) e ∙ ap (λ k. k % m) (pow-suc x 0 ∙ ap (λ k. k * x) (pow-zero x) ∙ (let l : 1 * x ≡ x = omega arith in l)) ∙ mod-eq_of_lt h)
