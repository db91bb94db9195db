-- Fractions that agree with residues.
use Rattle.std.specs.Prelude.{◌≡◌, ℕ, ◌≤◌, ◌<◌, List, length, slice_index, ℤ, pos, ◌-ℤ◌, ◌*ℤ◌, nat_abs}
use Rattle.std.specs.Int.{◌∣◌}
use Rattle.arithmetic.specs.Numbers.{gcd}

-- only 1 divides two of the moduli
abbrev pub ArePairwiseCoprime : List ℕ → Type 0
ArePairwiseCoprime ms = (i j : ℕ) → i < j → j < length ms → gcd (slice_index ms i) (slice_index ms j) ≡ 1

-- the pair of a top and a bottom is within the bounds, in lowest terms, and has the residue x modulo m
pub record AgreesModulo (m x top_bound bottom_bound : ℕ) (top : ℤ) (bottom : ℕ) : Type 0 where
  pub top_within : nat_abs top ≤ top_bound
  pub positive : 1 ≤ bottom
  pub bottom_within : bottom ≤ bottom_bound
  pub lowest : gcd (nat_abs top) bottom ≡ 1
  pub divides : m ∣ nat_abs (pos bottom *ℤ pos x -ℤ top)

-- the pair of a top and a bottom is within the bounds, in lowest terms, and has these residues
pub record Agrees (ms xs : List ℕ) (top_bound bottom_bound : ℕ) (top : ℤ) (bottom : ℕ) : Type 0 where
  pub top_within : nat_abs top ≤ top_bound
  pub positive : 1 ≤ bottom
  pub bottom_within : bottom ≤ bottom_bound
  pub lowest : gcd (nat_abs top) bottom ≡ 1
  pub divides : (i : ℕ) → i < length ms → slice_index ms i ∣ nat_abs (pos bottom *ℤ pos (slice_index xs i) -ℤ top)
