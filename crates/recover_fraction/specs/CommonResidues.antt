-- Numbers with given residues modulo several moduli.
use Rattle.std.specs.Prelude.{◌≡◌, ℕ, ◌%◌, ◌<◌, List, length, slice_index}
use Rattle.lists.specs.Digits.{product_of}

-- there is a residue for each modulus, and below it
pub record AreResiduesFor (ms xs : List ℕ) : Type 0 where
  pub as_many : length xs ≡ length ms
  pub below : (i : ℕ) → i < length ms → slice_index xs i < slice_index ms i

-- the number x leaves each residue modulo its modulus
abbrev pub HasResidues : List ℕ → List ℕ → ℕ → Type 0
HasResidues ms xs x = (i : ℕ) → i < length ms → x % slice_index ms i ≡ slice_index xs i

-- x is the one number below the product of the moduli with these residues
pub record IsCombination (ms xs : List ℕ) (x : ℕ) : Type 0 where
  pub below : x < product_of ms
  pub has_residues : HasResidues ms xs x
  pub only : (y : ℕ) → y < product_of ms → HasResidues ms xs y → y ≡ x
