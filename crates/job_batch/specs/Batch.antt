-- The batch rule: what a shared deque of jobs and its workers know of each other. A job is named by its place among the
-- states of the batch.
use Rattle.std.specs.Prelude.{◌≡◌, ℕ, ◌+◌, ◌-◌, ◌<◌, ◌≤◌, List, [], ◌++◌, length}
use mathlib.Core.Option.{some}
use lib.ListN.{get_elem?}
use Rattle.claim_table.specs.Counts.{occurrences, total}
use Rattle.job_batch.specs.declared.rule.Hand.{Hand}

-- All seats of a batch. Worker 0 has those that no thief has.
abbrev pub all_seats : ℕ
all_seats = 64

abbrev pub hand : ℕ → List ℕ → List ℕ → Hand
hand seats pushed answers = record { seats = seats; pushed = pushed; answers = answers }

-- worker 0 at the start
abbrev pub opening_hand : Hand
opening_hand = hand all_seats [] []

-- nobody's hand
abbrev pub empty_hand : Hand
empty_hand = hand 0 [] []

-- how often a place was answered to a hand
abbrev pub answers_of : ℕ → Hand → ℕ
answers_of place v = occurrences place v.answers

-- who has a seat knows what was pushed, and nobody else was answered anything
abbrev pub Knows : List ℕ → Hand → Type 0
Knows pushed v = (0 < v.seats → v.pushed ≡ pushed) × (v.seats ≡ 0 → v.answers ≡ [])

-- The batch rule, over the places in the deque and the hands of all workers. No place was pushed twice. Each pushed place
-- stands in exactly one of the deque and the lists of answers, once, and nothing else stands there.
pub record IsBatch (deque : List ℕ) (hands : List Hand) : Type 0 where
  pub pushed : List ℕ
  pub seats : total (λ v. v.seats) hands ≡ all_seats
  pub knows : (port : ℕ) (v : Hand) → get_elem? hands port ≡ some v → Knows pushed v
  pub once : (place : ℕ) → occurrences place pushed ≤ 1
  pub somewhere : (place : ℕ) → occurrences place deque + total (answers_of place) hands ≡ occurrences place pushed

-- worker 0 pushed a place more
abbrev pub Pushed : Hand → List ℕ → Hand → Type 0
Pushed v places w = w ≡ hand v.seats (v.pushed ++ places) v.answers

-- A pop or a steal answered a place more. It was pushed, and it was not answered to this worker before.
pub record Answered (v : Hand) (places : List ℕ) (w : Hand) : Type 0 where
  pub hand_is : w ≡ hand v.seats v.pushed (v.answers ++ places)
  pub pushed : (place : ℕ) → 0 < occurrences place places → 0 < occurrences place v.pushed
  pub is_new : (place : ℕ) → 0 < occurrences place places → occurrences place v.answers ≡ 0
  pub left : length v.answers < length v.pushed

-- The batch has ended: each pushed place was answered.
abbrev pub HasEnded : Hand → Type 0
HasEnded v = (place : ℕ) → occurrences place v.answers ≡ occurrences place v.pushed

-- worker 0 found the deque empty when it had all seats
abbrev pub FoundEmpty : Hand → Type 0
FoundEmpty v = v.seats ≡ all_seats → HasEnded v

-- a thief gets a seat of worker 0's, and gives it back with what it was answered
abbrev pub kept : Hand → Hand
kept v = hand (v.seats - 1) v.pushed v.answers

abbrev pub dealt : Hand → Hand
dealt v = hand 1 v.pushed []

abbrev pub gathered : Hand → Hand → Hand
gathered v w = hand (v.seats + w.seats) v.pushed (v.answers ++ w.answers)
