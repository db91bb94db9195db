-- The fraction of a class at a vertex of valence s is a power of that at valence 2.
use Rattle.std.proofs.Common.{◌≡◌, ℕ, zero, suc, ◌-◌, List, ℤ, pos, ◌*ℤ◌, neg_ℤ, refl, sym, ap, ap₂}
use Rattle.arithmetic.specs.Numbers.{power}
use Rattle.arithmetic.specs.Fractions.{fraction, power_of_fraction}
use Rattle.arithmetic.proofs.FractionSums.{one-*ℤ}
use Rattle.classes.specs.declared.class.Class.{Class}
use Rattle.classes.specs.declared.class.Class.TheVariants.{Mark, Hypersurface, Incidence, R1, Contact, Psi}
use Rattle.localisation.specs.Weights.{weight}
use Rattle.localisation.specs.ClassValue.{class_vertex}

pub power-one : (n : ℕ) → power (pos 1) n ≡ pos 1
power-one zero = refl
power-one (suc n) = ap (λ z. z *ℤ pos 1) (power-one n)

pub power-first : (z : ℤ) → power z 1 ≡ z
power-first z = one-*ℤ z

over_one : (z : ℤ) (n : ℕ) → fraction (power z n) (pos 1) ≡ power_of_fraction (fraction (power z 1) (pos 1)) n
over_one z n = ap₂ fraction (ap (λ y. power y n) (sym (power-first z))) (sym (power-one n))

under_one : (z : ℤ) (n : ℕ) → fraction (pos 1) (power z n) ≡ power_of_fraction (fraction (pos 1) (power z 1)) n
under_one z n = ap₂ fraction (sym (power-one n)) (ap (λ y. power y n) (sym (power-first z)))

plain_one : (n : ℕ) → fraction (pos 1) (pos 1) ≡ power_of_fraction (fraction (pos 1) (pos 1)) n
plain_one n = ap₂ fraction (sym (power-one n)) (sym (power-one n))

pub class_vertex-power : (ws : List ℤ) (class : Class) (c s : ℕ) → class_vertex ws class c s ≡ power_of_fraction (class_vertex ws class c 2) (s - 1)
class_vertex-power ws (Hypersurface b) c s = under_one (pos b *ℤ weight ws c) (s - 1)
class_vertex-power ws (R1 k) c s = over_one (neg_ℤ (pos k) *ℤ weight ws c) (s - 1)
class_vertex-power ws Contact c s = over_one (pos 2 *ℤ weight ws c) (s - 1)
class_vertex-power ws (Mark j) c s = plain_one (s - 1)
class_vertex-power ws (Incidence q) c s = plain_one (s - 1)
class_vertex-power ws (Psi j) c s = plain_one (s - 1)
