-- The limits within which words ask.
use Rattle.std.specs.Prelude.{ℕ, ◌<◌, ◌≤◌, ◌^◌, length}
use Rattle.command_line.specs.Requests.{Request, Sum, run, resume, make, soak, trees, rank, unrank, split, merge, batch, cross}

-- 1 to 64 workers
pub record AreWorkers (workers : ℕ) : Type 0 where
  pub least : 1 ≤ workers
  pub most : workers ≤ 64

-- 1 to 64 workers, and 1 to 2^40 trees before a pause
pub record IsSumWithin (s : Sum) : Type 0 where
  pub workers : AreWorkers s.workers
  pub least_budget : 1 ≤ s.budget
  pub most_budget : s.budget ≤ 2 ^ 40

-- what is asked is within its limits
abbrev pub IsWithin : Request → Type 0
IsWithin (run s) = IsSumWithin s
IsWithin (resume s) = IsSumWithin s
IsWithin (make number) = number < 2 ^ 32
IsWithin (soak number workers) = (number < 2 ^ 32) × AreWorkers workers
IsWithin (trees file low high workers) = (low ≤ 2 ^ 40) × (high ≤ 2 ^ 40) × AreWorkers workers
IsWithin (rank file text) = Unit {0}
IsWithin (unrank file number) = number ≤ 2 ^ 40
IsWithin (split file parts part workers) = (1 ≤ parts) × (parts ≤ 64) × (part < 64) × AreWorkers workers
IsWithin (merge files) = (1 ≤ length files) × (length files ≤ 64)
IsWithin (batch list workers) = AreWorkers workers
IsWithin (cross files workers) = (2 ≤ length files) × (length files ≤ 8) × AreWorkers workers

-- it is one of the commands that are built today
abbrev pub IsBuilt : Request → Type 0
IsBuilt (run s) = Unit {0}
IsBuilt (resume s) = Unit {0}
IsBuilt (make number) = Unit {0}
IsBuilt (soak number workers) = Unit {0}
IsBuilt (trees file low high workers) = Unit {0}
IsBuilt (rank file text) = Unit {0}
IsBuilt (unrank file number) = Unit {0}
IsBuilt (split file parts part workers) = ⊥
IsBuilt (merge files) = ⊥
IsBuilt (batch list workers) = ⊥
IsBuilt (cross files workers) = ⊥
