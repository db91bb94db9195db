-- The fractions that the residues of the integrals stand for.
use Rattle.std.specs.Prelude.{◌≡◌, ℕ, ◌*◌, ◌<◌, ◌≤◌, ◌↔◌, pos, ◌*ℤ◌, nat_abs, List, [], length, take, drop, slice_index, get_or, Option, Some, None}
use Rattle.arithmetic.specs.Numbers.{gcd}
use Rattle.arithmetic.specs.Fractions as unreduced
use Rattle.arithmetic.specs.Agreement.{Agrees}
use Rattle.localisation.specs.Agreement.{modulus_at}
use Rattle.localisation.specs.Contribution.{kontsevich_sum}
use Rattle.recover_fraction.specs.declared.recovery.Fraction.{Fraction}
use Rattle.problem.specs.Rules.{ProblemView}
use Rattle.problem.specs.Sums.{places_of}

-- there is a residue for each integral and modulus, and it is below its modulus
pub record AreSumResidues (p : ProblemView) (residues : List ℕ) : Type 0 where
  pub as_many : places_of p ≤ length residues
  pub below : (place : ℕ) → place < places_of p → slice_index residues place < modulus_at p.moduli place

-- the residues of the integral i, one for each modulus
abbrev pub residues_of : ProblemView → List ℕ → ℕ → List ℕ
residues_of p residues i = take (length p.moduli) (drop (i * length p.moduli) residues)

-- A fraction agrees with the residues within the bounds exactly if it is the one that is found. So the one that is
-- found agrees, no other does, and none is found exactly if none agrees.
abbrev pub IsOnlyFraction : List ℕ → List ℕ → ℕ → ℕ → Option Fraction → Type 0
IsOnlyFraction ms xs a b found = (f : Fraction) → Agrees ms xs a b f.top f.bottom ↔ (found ≡ Some f)

-- the fraction of each integral within the bounds of the problem, or none
pub record AreFractions (p : ProblemView) (residues : List ℕ) (found : List (Option Fraction)) : Type 0 where
  pub as_many : length found ≡ length p.integrals
  pub each : (i : ℕ) → i < length p.integrals
      → IsOnlyFraction p.moduli (residues_of p residues i) p.top_bound p.bottom_bound (get_or found i None)

-- f is the fraction s in lowest terms
pub record IsInLowestTerms (s : unreduced.Fraction) (f : Fraction) : Type 0 where
  pub positive : 1 ≤ f.bottom
  pub lowest : gcd (nat_abs f.top) f.bottom ≡ 1
  pub equal : f.top *ℤ s.bottom ≡ s.top *ℤ pos f.bottom

-- if the sum of an integral in lowest terms lies within the bounds, it is the fraction that is found
abbrev pub FindSums : ProblemView → List (Option Fraction) → Type 0
FindSums p found = (i : ℕ) → i < length p.integrals → (f : Fraction)
    → IsInLowestTerms (kontsevich_sum p.weights p.shape (get_or p.integrals i [])) f
    → nat_abs f.top ≤ p.top_bound → f.bottom ≤ p.bottom_bound → get_or found i None ≡ Some f
