-- What a call that sums the trees of a problem from a number on comes to.
use Rattle.std.specs.Prelude.{◌≡◌, ℕ, suc, ◌+◌, ◌<◌, ◌≤◌, ◌==◌, if◌then◌else◌, List, Option, Some, None, length, sum}
use Rattle.localisation.specs.Agreement.{NoneBad, IsLeastBad, IsFirstBad}
use Rattle.problem.specs.Rules.{ProblemView}
use Rattle.problem.specs.Sums.{count_of, is_bad_of, is_bad_modulo, ArePartialSums, AreKontsevichSums}
use Rattle.checkpoint.specs.States.{StateView, AreResidues}
use Rattle.sum_job.specs.Parts.{GrewByNumbers}
use Rattle.rounds.specs.Rounds.{budget_end, reached, blocks_of_rounds, AreRounds}
use Rattle.rounds.specs.declared.progress.Outcome.{Outcome}
use Rattle.rounds.specs.declared.progress.Outcome.TheVariants.{Done, Paused, NoInverse}
use Rattle.rounds.specs.declared.progress.Progress.{Progress}
use Rattle.rounds.specs.declared.round.BadTree.{BadTree}

-- how far the sum of a problem has come: the number of the next tree, and the residues of the sums so far
pub record SumView : Type 0 where
  pub problem : ProblemView
  pub next : ℕ
  pub residues : List ℕ

-- the sum of a state
abbrev pub sum_of : StateView → SumView
sum_of s = record { problem = s.problem; next = s.next; residues = s.residues }

-- What one round over the numbers from first to end - 1 comes to: the residues grew by those of these numbers, none of
-- which is bad; or the least of them that is bad, with the first modulus for which it is.
abbrev pub IsRoundSum : ProblemView → ℕ → ℕ → List ℕ → List ℕ → Option BadTree → Type 0
IsRoundSum p first end old new None =
    NoneBad (is_bad_of p) first end × AreResidues p new × GrewByNumbers p first end old new
IsRoundSum p first end old new (Some bad) =
    IsLeastBad (is_bad_of p) first end bad.number × IsFirstBad (is_bad_modulo p bad.number) p.moduli bad.modulus

-- done if no tree is left, and paused otherwise
abbrev pub ended : ℕ → ℕ → List ℕ → Outcome
ended count at residues = if at == count then Done residues else Paused at residues

-- None of the numbers from next to end - 1 is bad, and the residues grew by those of exactly these numbers.
pub record IsSummed (s : SumView) (end : ℕ) (residues : List ℕ) : Type 0 where
  pub none_bad : NoneBad (is_bad_of s.problem) s.next end
  pub are_residues : AreResidues s.problem residues
  pub grew : GrewByNumbers s.problem s.next end s.residues residues

-- The k rounds that a budget gives were run, up to the last tree.
pub record IsDone (s : SumView) (budget k : ℕ) (residues : List ℕ) : Type 0 where
  pub rounds : AreRounds s.next (budget_end (count_of s.problem) s.next budget) k
  pub last : reached s.next (budget_end (count_of s.problem) s.next budget) k ≡ count_of s.problem
  pub summed : IsSummed s (count_of s.problem) residues

-- Some trees are left after k rounds, at least one.
pub record IsPaused (s : SumView) (budget k next : ℕ) (residues : List ℕ) : Type 0 where
  pub some : 0 < k
  pub rounds : AreRounds s.next (budget_end (count_of s.problem) s.next budget) k
  pub at : next ≡ reached s.next (budget_end (count_of s.problem) s.next budget) k
  pub left : next < count_of s.problem
  pub summed : IsSummed s next residues

-- The last of the k rounds is the first that has a bad number. Its least bad number is named, and the first modulus for
-- which it is bad.
pub record IsNoInverse (s : SumView) (budget k number modulus : ℕ) : Type 0 where
  pub round : ℕ
  pub last : k ≡ suc round
  pub rounds : AreRounds s.next (budget_end (count_of s.problem) s.next budget) k
  pub earlier : NoneBad (is_bad_of s.problem) s.next (reached s.next (budget_end (count_of s.problem) s.next budget) round)
  pub least : IsLeastBad (is_bad_of s.problem) (reached s.next (budget_end (count_of s.problem) s.next budget) round)
      (reached s.next (budget_end (count_of s.problem) s.next budget) k) number
  pub first : IsFirstBad (is_bad_modulo s.problem number) s.problem.moduli modulus

-- k rounds under a budget came to this
abbrev pub IsOutcome : SumView → ℕ → ℕ → Outcome → Type 0
IsOutcome s budget k (Done residues) = IsDone s budget k residues
IsOutcome s budget k (Paused next residues) = IsPaused s budget k next residues
IsOutcome s budget k (NoInverse number modulus) = IsNoInverse s budget k number modulus

-- A pause before the budget is used up: it comes of a stop alone.
abbrev pub IsEarly : SumView → ℕ → Outcome → Type 0
IsEarly s budget (Done residues) = ⊥
IsEarly s budget (Paused next residues) = next < s.next + budget
IsEarly s budget (NoInverse number modulus) = ⊥

-- Some rounds were run under a budget, whose blocks are those that the workers worked, and came to this.
pub record IsProgress (s : SumView) (budget workers : ℕ) (p : Progress) : Type 0 where
  pub rounds : ℕ
  pub outcome : IsOutcome s budget rounds p.outcome
  pub one_each : length p.shares ≡ workers
  pub blocks : sum p.shares ≡ blocks_of_rounds s.next (budget_end (count_of s.problem) s.next budget) rounds

-- The residues are those of the partial sums over the numbers below next.
abbrev pub IsTrueSum : SumView → Type 0
IsTrueSum s = ArePartialSums s.problem 0 s.next s.residues

-- If the sums so far are true, so are those of a pause, and those of the end are Kontsevich's.
abbrev pub KeepsTruth : SumView → Outcome → Type 0
KeepsTruth s (Done residues) = IsTrueSum s → AreKontsevichSums s.problem residues
KeepsTruth s (Paused next residues) = IsTrueSum s → IsTrueSum (record s { next = next; residues = residues })
KeepsTruth s (NoInverse number modulus) = Unit {0}

-- What an outcome names is of the problem: there is a residue for each integral and modulus, below its modulus; the
-- next number is at most the number of trees; a bad tree has a number, and its modulus is one of the problem.
abbrev pub IsOfProblem : ProblemView → Outcome → Type 0
IsOfProblem p (Done residues) = AreResidues p residues
IsOfProblem p (Paused next residues) = (next ≤ count_of p) × AreResidues p residues
IsOfProblem p (NoInverse number modulus) = (number < count_of p) × (modulus < length p.moduli)
