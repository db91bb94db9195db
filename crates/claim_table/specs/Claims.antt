-- What a worker did in a round, how the calls of a claimer change it, and which claims are legal.
use Rattle.std.specs.Prelude.{◌≡◌, ℕ, zero, suc, ◌<◌, ◌==◌, ◌&&◌, true, false, List, [], ◌∷◌, ◌++◌, length, slice_index, slice_index_or, nat_lt}
use Rattle.claim_table.specs.declared.claimer.Plan.{Plan}
use Rattle.claim_table.specs.declared.claimer.Record.{Record}
use Rattle.claim_table.specs.Counts.{bit, occurrences}

-- a round of this many blocks for this many workers
abbrev pub plan : ℕ → ℕ → Plan
plan blocks workers = record { blocks = blocks; workers = workers }

-- what a worker has done before a round
abbrev pub fresh : ℕ → Record
fresh worker = record { worker = worker; taken = []; dry = false; reported = []; seens = [] }

-- a block more was taken
abbrev pub with_taken : Record → ℕ → Record
with_taken r block = record r { taken = r.taken ++ block ∷ []; dry = false }

-- no block was left
abbrev pub made_dry : Record → Record
made_dry r = record r { dry = true }

-- a bad number more was reported
abbrev pub with_reported : Record → ℕ → Record
with_reported r number = record r { reported = r.reported ++ number ∷ [] }

-- a least bad number more was seen
abbrev pub with_seen : Record → ℕ → Record
with_seen r number = record r { seens = r.seens ++ number ∷ [] }

-- 1 for a record of this worker
abbrev pub is_of : ℕ → Record → ℕ
is_of worker r = bit (r.worker == worker)

-- how many blocks the record has taken
abbrev pub taken_count : Record → ℕ
taken_count r = length r.taken

-- 1 for a dry record
abbrev pub dry_count : Record → ℕ
dry_count r = bit r.dry

-- how often the record has taken this block
abbrev pub takes_of : ℕ → Record → ℕ
takes_of block r = occurrences block r.taken

-- all numbers that these workers reported
abbrev pub all_reported : List Record → List ℕ
all_reported [] = []
all_reported (r ∷ rs) = r.reported ++ all_reported rs

-- the list has each block of this worker once, and nothing else
abbrev pub IsShareOf : List ℕ → ℕ → List ℕ → Type 0
IsShareOf owners worker taken =
    (block : ℕ) → occurrences block taken ≡ bit (nat_lt block (length owners) && slice_index owners block == worker)

-- Claims of a round are legal: each block has one owner, a worker of the round,
-- and the blocks of each worker are those that its takes answered, each once.
pub record IsLegal (p : Plan) (owners : List ℕ) (taken : List (List ℕ)) : Type 0 where
  pub blocks : length owners ≡ p.blocks
  pub workers : length taken ≡ p.workers
  pub owned : (block : ℕ) → block < p.blocks → slice_index owners block < p.workers
  pub shares : (worker : ℕ) → worker < p.workers → IsShareOf owners worker (slice_index_or taken worker [])

-- the worker, if it took the block at least once, and otherwise the owner that there was
abbrev pub given : ℕ → ℕ → ℕ → ℕ
given zero worker owner = owner
given (suc n) worker owner = worker
