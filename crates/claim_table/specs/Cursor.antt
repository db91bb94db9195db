-- The rule of the claim cursor: word 0 is the cursor, and word 1 the least number that was reported bad.
use Rattle.std.specs.Prelude.{◌≡◌, ℕ, ◌+◌, ◌<◌, ◌≤◌, cond, List, length, slice_index, min, nat_lt}
use Rattle.atomic_table.specs.Table.{State, Me, Step}
use Rattle.claim_table.specs.declared.claimer.Plan.{Plan}
use Rattle.claim_table.specs.declared.claimer.Record.{Record}
use Rattle.claim_table.specs.declared.view.View.{View}
use Rattle.claim_table.specs.Counts.{occurrences, up_to, total, once_below}
use Rattle.claim_table.specs.Claims.{fresh, with_taken, made_dry, with_reported, with_seen, taken_count, dry_count, takes_of}
use Rattle.claim_table.specs.Views.{view, all_records, first_of, with_only, made_from, AreRecords, IsLeastReported}

-- word 0
abbrev pub cursor : List ℕ → ℕ
cursor words = slice_index words 0

-- word 1
abbrev pub bad : List ℕ → ℕ
bad words = slice_index words 1

-- a record of the cursor has what its worker did, and nothing else
abbrev pub itself : Record → Record
itself r = r

-- The cursor rule, over the two words and the records of all views. A view that was joined away has no record.
pub record IsClaimed (p : Plan) (words : List ℕ) (views : List (View Record)) : Type 0 where
  pub limits : (p.blocks ≤ 1024) × (p.workers ≤ 64)
  pub two_words : length words ≡ 2
  pub records : AreRecords itself p views
  -- the taken lists together are the blocks below the cursor, each once
  pub each_once : (block : ℕ) → total (takes_of block) (all_records views) ≡ once_below
      (min (cursor words) p.blocks) block
  pub takes : total taken_count (all_records views) ≡ min (cursor words) p.blocks
  -- the cursor counts the taken blocks and the dry records, and if a record is dry, all blocks are taken
  pub counts : cursor words ≡ total taken_count (all_records views) + total dry_count (all_records views)
  pub all_taken : 0 < total dry_count (all_records views) → total taken_count (all_records views) ≡ p.blocks
  pub least : IsLeastReported itself (bad words) (all_records views)

abbrev pub CursorHolds : {S : Type 0} → Plan → State S (View Record) → Type 0
CursorHolds p s = IsClaimed p s.words s.views

-- the only record of a seat's view
abbrev pub only : View Record → Record
only v = first_of (fresh 0) v.records

-- the record after a take that found the cursor there
abbrev pub after_take : View Record → ℕ → Record
after_take v found = cond (nat_lt found v.blocks) (with_taken (only v) found) (made_dry (only v))

-- A take appends the number that it found if it is a block, and otherwise makes the record dry.
-- No earlier take found that number.
abbrev pub Takes : {S : Type 0} → Step S → Me S (View Record) → ℕ → Me S (View Record) → Type 0
Takes s me found after =
    (after ≡ (with_only me.0 (after_take me.0 found), me.1))
    × (length (only me.0).taken ≤ found)
    × (occurrences found (only me.0).taken ≡ 0)

-- a report appends the number
abbrev pub Reports : {S : Type 0} → Step S → Me S (View Record) → ℕ → Me S (View Record) → Type 0
Reports s me found after = after ≡ (with_only me.0 (with_reported (only me.0) s.first), me.1)

-- A look at the bad word appends what it found. No number that this seat reported is less.
abbrev pub Sees : {S : Type 0} → Step S → Me S (View Record) → ℕ → Me S (View Record) → Type 0
Sees s me found after =
    (after ≡ (with_only me.0 (with_seen (only me.0) found), me.1))
    × ((x : ℕ) → x < found → up_to x (only me.0).reported ≡ 0)

-- the first seat stands for all workers
abbrev pub opening_view : Plan → View Record
opening_view p = view p.blocks (made_from fresh 0 p.workers)
