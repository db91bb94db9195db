-- How the jobs of a batch end.
use Rattle.std.specs.Prelude.{◌≡◌, ℕ, ◌^◌, List, Option, Some, None, replicate, take}
use Rattle.claim_table.specs.Counts.{nothing_bad}
use Rattle.localisation.specs.Agreement.{IsLeastBad, IsFirstBad}
use Rattle.problem.specs.Rules.{ProblemView}
use Rattle.problem.specs.Sums.{places_of, is_bad_of, is_bad_modulo}
use Rattle.checkpoint.specs.States.{StateView}
use Rattle.rounds.specs.Outcomes.{SumView, sum_of, IsOutcome, IsRoundSum}
use Rattle.rounds.specs.declared.progress.Outcome.{Outcome}
use Rattle.rounds.specs.declared.progress.Outcome.TheVariants.{Done, NoInverse}
use Rattle.job_batch.specs.declared.alone.BadNumber.{BadNumber}

-- the sum of a problem of which no tree was summed
abbrev pub start_of : ProblemView → SumView
start_of p = record { problem = p; next = 0; residues = replicate (places_of p) 0 }

-- The sum came to this with a budget of 2^40 trees, which no problem exceeds, and without a stop.
pub record IsEnd (s : SumView) (o : Outcome) : Type 0 where
  pub rounds : ℕ
  pub outcome : IsOutcome s (2 ^ 40) rounds o

-- the number, or 2^64 - 1 if there is none
abbrev pub or_nothing : Option ℕ → ℕ
or_nothing None = nothing_bad
or_nothing (Some number) = number

-- What one round over the numbers from first to end - 1 comes to: the residues grew by those of these numbers, none of
-- which is bad; or the least of them that is bad, with the first modulus for which it is.
abbrev pub IsRoundEnd : ProblemView → ℕ → ℕ → List ℕ → List ℕ → Option BadNumber → Type 0
IsRoundEnd p first end old new None = IsRoundSum p first end old new None
IsRoundEnd p first end old new (Some bad) =
    IsLeastBad (is_bad_of p) first end bad.number × IsFirstBad (is_bad_modulo p bad.number) p.moduli bad.modulus

-- the outcome of a job whose residues are these, if it met no bad number
abbrev pub outcome_with : Option BadNumber → List ℕ → Outcome
outcome_with None residues = Done residues
outcome_with (Some bad) residues = NoInverse bad.number bad.modulus

-- no tree of the state was summed
abbrev pub IsFresh : StateView → Type 0
IsFresh s = (s.next ≡ 0) × (s.residues ≡ replicate (places_of s.problem) 0)

-- a job of this state ended so: it met this bad number, or its residues stand at the first places of a row of sums
abbrev pub IsJobEnd : StateView → Option BadNumber → List ℕ → Type 0
IsJobEnd s bad sums = IsEnd (sum_of s) (outcome_with bad (take (places_of s.problem) sums))
