-- What the parts of all workers list together.
use Rattle.std.specs.Prelude.{◌≡◌, ◌≢◌, ℕ, ◌+◌, ◌%◌, ◌<◌, ◌≤◌, List, [], None, All, length, slice_index, slice_index_or, sum_by}
use Rattle.arithmetic.specs.Fractions.{IsResidue}
use Rattle.localisation.specs.Contribution.{partial_sum}
use Rattle.localisation.specs.Agreement.{modulus_at, integral_at}
use Rattle.problem.specs.Rules.{ProblemView}
use Rattle.problem.specs.Sums.{places_of}
use Rattle.claim_table.specs.Claims.{plan}
use Rattle.worker_pool.specs.Rounds.{IsRound}
use Rattle.sum_job.specs.Parts.{JobView, block_count}
use Rattle.list_job.specs.declared.entry.Entry.{Entry}
use Rattle.list_job.specs.declared.part.ListPart.{ListPart}
use Rattle.list_job.specs.Entries.{no_residue, IsEntryOf, HasEntryOf}
use Rattle.list_job.specs.Parts.{room_of, entry_at, size_of, IsReady, StandsFor}

-- exactly one of the parts has an entry at a place, and it is that of the number there
pub record HasOneEntry (job : JobView) (parts : List ListPart) (place : ℕ) : Type 0 where
  pub worker : ℕ
  pub within : worker < length parts
  pub entry : (d : ListPart) → HasEntryOf job.problem (job.first + place) (entry_at (slice_index_or parts worker d) place)
  pub others : (other : ℕ) (d : ListPart) → other < length parts → other ≢ worker
      → entry_at (slice_index_or parts other d) place ≡ None

-- The parts list the numbers of a job: each part has room for all of them, and each number has its entry in exactly one.
pub record AreListing (job : JobView) (parts : List ListPart) : Type 0 where
  pub room : All (λ part. size_of job ≤ room_of part) parts
  pub once : (place : ℕ) → place < size_of job → HasOneEntry job parts place

-- the parts after a round whose parts had no entry before
pub record AreAfterRound (job : JobView) (parts : List ListPart) : Type 0 where
  pub before : List ListPart
  pub owners : List ℕ
  pub least_bad : ℕ
  pub as_many : length parts ≡ length before
  pub empty : All (λ part. StandsFor job part []) before
  pub round : IsRound (StandsFor job) (plan (block_count job.first job.end) (length before)) owners least_bad before parts
  pub ready : All (λ part. IsReady job part) parts

-- the entries of the numbers from first to end - 1, in order
pub record AreEntries (p : ProblemView) (first end : ℕ) (entries : List Entry) : Type 0 where
  pub as_many : first + length entries ≡ end
  pub each : (i : ℕ) (d : Entry) → i < length entries → IsEntryOf p (first + i) (slice_index_or entries i d)

-- the value of an entry for an integral and a modulus
abbrev pub value_at : ℕ → Entry → ℕ
value_at place e = slice_index e.values place

-- If each entry has a residue for an integral and a modulus, their sum is the residue of the partial sum.
abbrev pub SumToPartialSums : ProblemView → ℕ → ℕ → List Entry → Type 0
SumToPartialSums p first end entries = (place : ℕ) → place < places_of p
    → All (λ e. value_at place e ≢ no_residue) entries
    → IsResidue (modulus_at p.moduli place) (partial_sum p.weights p.shape first end (integral_at p.moduli p.integrals place))
    (sum_by (value_at place) entries % modulus_at p.moduli place)
