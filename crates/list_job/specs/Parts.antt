-- What a worker's part of a list stands for.
use Rattle.std.specs.Prelude.{◌≡◌, ℕ, ◌+◌, ◌-◌, ◌/◌, ◌<◌, ◌≤◌, List, Option, None, All, length, slice_index_or}
use Rattle.claim_table.specs.Counts.{occurrences}
use Rattle.worker_pool.specs.Rounds.{blocks_of}
use Rattle.factor_table.specs.Seats.{IsSeatOf}
use Rattle.sum_job.specs.Parts.{JobView, KnowsBlock}
use Rattle.list_job.specs.declared.entry.Entry.{Entry}
use Rattle.list_job.specs.declared.part.ListPart.{ListPart}
use Rattle.list_job.specs.Entries.{HasEntryOf}

-- how many places a part has
abbrev pub room_of : ListPart → ℕ
room_of part = length part.entries.items

-- the entry at a place, if the place is not empty
abbrev pub entry_at : ListPart → ℕ → Option Entry
entry_at part place = slice_index_or part.entries.items place None

-- how many numbers a job has
abbrev pub size_of : JobView → ℕ
size_of job = job.end - job.first

-- a part may be handed to a worker: it has a place for each number of the job, and its seat is one of the job's table
pub record IsReady (job : JobView) (part : ListPart) : Type 0 where
  pub room : size_of job ≤ room_of part
  pub seat : IsSeatOf part.seat job.table

-- the number at a place is one of the numbers of these blocks
pub record IsInBlocks (job : JobView) (blocks : List ℕ) (place : ℕ) : Type 0 where
  pub within : place < size_of job
  pub block : 0 < occurrences (place / 64) blocks

-- A part stands for pairs of a block and the least bad number that was seen before it, which does not matter here. The
-- numbers of these blocks have their entries, each at its place, and all other places are empty. The part's seat knows
-- the edges of the trees of these blocks.
pub record StandsFor (job : JobView) (part : ListPart) (pairs : List (ℕ × ℕ)) : Type 0 where
  pub filled : (place : ℕ) → IsInBlocks job (blocks_of pairs) place
      → HasEntryOf job.problem (job.first + place) (entry_at part place)
  pub empty : (place : ℕ) → ¬ IsInBlocks job (blocks_of pairs) place → entry_at part place ≡ None
  pub edges : All (λ pair. KnowsBlock job part.seat pair.0) pairs
