-- What the seats of an atomic table know of a round, in any representation of the claims:
-- the number of blocks, and a record for each worker that the seat stands for.
use Rattle.std.specs.Prelude.{◌≡◌, ℕ, zero, suc, ◌+◌, ◌<◌, ◌≤◌, List, [], ◌∷◌, ◌++◌, length, map, All}
use Rattle.atomic_table.specs.Table.{Me, Step}
use Rattle.claim_table.specs.declared.claimer.Plan.{Plan}
use Rattle.claim_table.specs.declared.claimer.Record.{Record}
use Rattle.claim_table.specs.declared.view.View.{View}
use Rattle.claim_table.specs.Counts.{total, once_below, least_of}
use Rattle.claim_table.specs.Claims.{is_of, all_reported}

abbrev pub view : {R : Type 0} → ℕ → List R → View R
view blocks records = record { blocks = blocks; records = records }

-- the records of all views
abbrev pub all_records : {R : Type 0} → List (View R) → List R
all_records [] = []
all_records (v ∷ vs) = v.records ++ all_records vs

-- the first record, or this one if there is none
abbrev pub first_of : {R : Type 0} → R → List R → R
first_of r [] = r
first_of r (s ∷ rs) = s

abbrev pub rest_of : {R : Type 0} → List R → List R
rest_of [] = []
rest_of (r ∷ rs) = rs

abbrev pub first_alone : {R : Type 0} → List R → List R
first_alone [] = []
first_alone (r ∷ rs) = r ∷ []

-- the seat of one worker has another record
abbrev pub with_only : {R : Type 0} → View R → R → View R
with_only v r = view v.blocks (r ∷ [])

-- a new seat stands for no worker
abbrev pub NewSeat : {S R : Type 0} → Step S → Me S (View R) → ℕ → Me S (View R) → Type 0
NewSeat s me found after = after ≡ (view 0 [], [])

-- the records of n workers from k on
abbrev pub made_from : {R : Type 0} → (ℕ → R) → ℕ → ℕ → List R
made_from make k zero = []
made_from make k (suc n) = make k ∷ made_from make (k + 1) n

-- the first seat has the records of all workers, and they are dealt from the first on
abbrev pub dealt_left : {R : Type 0} → View R → View R
dealt_left v = view v.blocks (rest_of v.records)

abbrev pub dealt_right : {R : Type 0} → View R → View R
dealt_right v = view v.blocks (first_alone v.records)

-- a join moves the records of the second seat behind those of the first, and none is left
abbrev pub joined : {R : Type 0} → View R → View R → View R
joined v w = view w.blocks (v.records ++ w.records)

abbrev pub spent : {R : Type 0} → View R
spent = view 0 []

-- Each worker has one record, and nobody else has one. A view with a record has the number of blocks.
-- What the worker of a record did is given by `done`.
pub record AreRecords {R : Type 0} (done : R → Record) (p : Plan) (views : List (View R)) : Type 0 where
  pub one_each : (worker : ℕ) → total (λ r. is_of worker (done r)) (all_records views) ≡ once_below p.workers worker
  pub workers : length (all_records views) ≡ p.workers
  pub of_round : All (λ v. 0 < length v.records → v.blocks ≡ p.blocks) views

-- The word is the least number that these workers reported, or 2^64 - 1 if they reported none,
-- and at most each number that they saw.
pub record IsLeastReported {R : Type 0} (done : R → Record) (word : ℕ) (records : List R) : Type 0 where
  pub least : word ≡ least_of (all_reported (map done records))
  pub seen : All (λ r. All (λ number. word ≤ number) (done r).seens) records
