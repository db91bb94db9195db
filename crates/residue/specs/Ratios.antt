-- Residues of tops and bottoms.
use Rattle.std.specs.Prelude.{ℕ}
use Rattle.arithmetic.specs.Numbers.{Leaves}
use Rattle.arithmetic.specs.Fractions.{Fraction}
use Rattle.residue.specs.declared.ratio.Ratio.{Ratio}

-- the residues of the top and the bottom of a fraction
pub record IsRatioOf (m : ℕ) (f : Fraction) (ratio : Ratio) : Type 0 where
  pub top : Leaves m f.top ratio.top
  pub bottom : Leaves m f.bottom ratio.bottom
