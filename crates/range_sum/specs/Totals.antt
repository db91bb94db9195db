-- What trees add to the sums of a problem.
use Rattle.std.specs.Prelude.{◌≡◌, ℕ, ◌+◌, ◌*◌, ◌%◌, ◌<◌, List, length, slice_index_or}
use Rattle.arithmetic.specs.Fractions.{Fraction, plus, IsResidue}
use Rattle.residue.specs.Ratios.{IsRatioOf}
use Rattle.residue.specs.declared.class.Term.{Term}
use Rattle.residue.specs.declared.ratio.Ratio.{Ratio}
use Rattle.localisation.specs.Agreement.{modulus_at, integral_at}

-- a sum grew by the residue of a fraction
pub record AddsResidue (m : ℕ) (f : Fraction) (old new : ℕ) : Type 0 where
  pub value : ℕ
  pub is_residue : IsResidue m f value
  pub sum : new ≡ (old + value) % m

-- the ratio at an index, 0 over 0 past the last
abbrev pub ratio_at : List Ratio → ℕ → Ratio
ratio_at ratios place = slice_index_or ratios place (record { top = 0; bottom = 0 })

-- its top and its bottom are residues modulo m
pub record IsRatioBelow (m : ℕ) (ratio : Ratio) : Type 0 where
  pub top : ratio.top < m
  pub bottom : ratio.bottom < m

-- a fraction was added: a ratio of any other is now that of the sum of both
pub record AddsFraction (m : ℕ) (added : Fraction) (old new : Ratio) : Type 0 where
  pub sum : (f : Fraction) → IsRatioOf m f old → IsRatioOf m (plus f added) new

-- each ratio is that of the fraction of its integral modulo its modulus
pub record AreRatiosOf (ms : List ℕ) (integrals : List (List Term)) (fraction_of : List Term → Fraction) (ratios : List Ratio) : Type 0 where
  pub each : (place : ℕ) → place < length integrals * length ms
      → IsRatioOf (modulus_at ms place) (fraction_of (integral_at ms integrals place)) (ratio_at ratios place)
