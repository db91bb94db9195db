-- Chains of calls, each of which goes on where the one before paused, with a budget and workers of its own.
use Rattle.std.specs.Prelude.{ℕ, ◌≤◌, List}
use Rattle.localisation.specs.Agreement.{IsLeastBad, IsFirstBad}
use Rattle.problem.specs.Rules.{ProblemView}
use Rattle.problem.specs.Sums.{count_of, is_bad_of, is_bad_modulo}
use Rattle.checkpoint.specs.States.{AreResidues}
use Rattle.rounds.specs.Outcomes.{SumView, IsSummed, IsOutcome}
use Rattle.rounds.specs.declared.progress.Outcome.{Outcome}
use Rattle.rounds.specs.declared.progress.Outcome.TheVariants.{Done, Paused, NoInverse}

-- The sum of a problem began at the number first with the residues begin, and calls that paused, however many, led to
-- the number next with other residues.
pub data IsChain (p : ProblemView) (first : ℕ) (begin : List ℕ) : ℕ → List ℕ → Type 0 where
  begun : first ≤ count_of p → AreResidues p begin → IsChain p first begin first begin
  paused : (next budget k later : ℕ) (residues more : List ℕ) → IsChain p first begin next residues
      → IsOutcome (record { problem = p; next = next; residues = residues }) budget k (Paused later more)
      → IsChain p first begin later more

-- What a chain comes to, from where it began: the sums over all numbers, each once, or the least bad number of all.
abbrev pub IsEndOfChain : SumView → Outcome → Type 0
IsEndOfChain s (Done residues) = IsSummed s (count_of s.problem) residues
IsEndOfChain s (Paused next residues) = IsSummed s next residues
IsEndOfChain s (NoInverse number modulus) =
    IsLeastBad (is_bad_of s.problem) s.next (count_of s.problem) number
    × IsFirstBad (is_bad_modulo s.problem number) s.problem.moduli modulus
