-- One residue modulo the product of the moduli in place of a residue modulo each.
use Rattle.std.specs.Prelude.{ℕ, ◌↔◌, List, ℤ}
use Rattle.arithmetic.specs.Agreement.{Agrees, AgreesModulo}
use Rattle.lists.specs.Digits.{product_of}

-- the pairs that agree with the residues are those that agree with x modulo the product of the moduli
pub record KeepsAgreement (ms xs : List ℕ) (x : ℕ) : Type 0 where
  pub same : (a b : ℕ) (p : ℤ) (q : ℕ) → Agrees ms xs a b p q ↔ AgreesModulo (product_of ms) x a b p q
