-- What an entry tells of a tree.
use Rattle.std.specs.Prelude.{◌≡◌, ◌≢◌, ℕ, ◌<◌, ◌≤◌, Option, Some, nat_abs, length, slice_index}
use Rattle.arithmetic.specs.Numbers.{gcd}
use Rattle.arithmetic.specs.Fractions.{Fraction, IsResidue}
use Rattle.trees.specs.TreeNumbers.{tree_of}
use Rattle.localisation.specs.Contribution.{contribution}
use Rattle.localisation.specs.Agreement.{modulus_at, integral_at}
use Rattle.problem.specs.Rules.{ProblemView}
use Rattle.problem.specs.Sums.{places_of}
use Rattle.list_job.specs.declared.entry.Entry.{Entry}

-- The number that stands where there is no residue: 2^64 - 1, which is above every modulus.
abbrev pub no_residue : ℕ
no_residue = 18446744073709551615

-- a number tells the residue of a fraction modulo m: it is the residue, or `no_residue` exactly if there is none
pub record Tells (m : ℕ) (f : Fraction) (x : ℕ) : Type 0 where
  pub residue : x ≢ no_residue → IsResidue m f x
  pub none : x ≡ no_residue → gcd (nat_abs f.bottom) m ≢ 1

-- the entry of the tree of the number k tells for each integral and modulus the residue of the tree's contribution, and
-- none past them
pub record IsEntryOf (p : ProblemView) (k : ℕ) (e : Entry) : Type 0 where
  pub number : e.number ≡ k
  pub places : length e.values ≡ 64
  pub values : (place : ℕ) → place < places_of p
      → Tells (modulus_at p.moduli place)
      (contribution p.weights (integral_at p.moduli p.integrals place) (tree_of p.shape k)) (slice_index e.values place)
  pub rest : (place : ℕ) → places_of p ≤ place → place < 64 → slice_index e.values place ≡ no_residue

-- there is an entry, and it is that of the tree of the number k
pub record HasEntryOf (p : ProblemView) (k : ℕ) (o : Option Entry) : Type 0 where
  pub entry : Entry
  pub there : o ≡ Some entry
  pub is : IsEntryOf p k entry
