-- What the loops of a round do to the seats and the parts, and what the round comes to.
-- A pair is a block and the least bad number that its worker saw before it.
use Rattle.std.specs.Prelude.{◌≡◌, ℕ, ◌<◌, ◌≤◌, Bool, true, List, [], ◌++◌, Option, Some, None, if◌then◌else◌, length, map, nat_le, slice_index_or, All}
use Rattle.std.specs.List.{filter_map}
use Rattle.std.specs.Option.{option_to_list}
use Rattle.claim_table.specs.Counts.{nothing_bad}
use Rattle.claim_table.specs.declared.claimer.Plan.{Plan}
use Rattle.claim_table.specs.declared.claimer.Record.{Record}
use Rattle.claim_table.specs.Claims.{IsLegal}

-- a block's least bad number, as the answer to a worker that saw this one: what lies above it may be passed over
abbrev pub at_most : ℕ → Option ℕ → Option ℕ
at_most seen None = None
at_most seen (Some number) = if nat_le number seen then Some number else None

abbrev pub blocks_of : List (ℕ × ℕ) → List ℕ
blocks_of pairs = map (λ p. p.0) pairs

abbrev pub seens_of : List (ℕ × ℕ) → List ℕ
seens_of pairs = map (λ p. p.1) pairs

-- what `work` answers at these pairs, in order
abbrev pub answers : (ℕ → Option ℕ) → List (ℕ × ℕ) → List ℕ
answers least_bad pairs = filter_map (λ p. at_most p.1 (least_bad p.0)) pairs

-- a seat's record after an answer was reported
abbrev pub with_answer : Record → Option ℕ → Record
with_answer r answer = record r { reported = r.reported ++ option_to_list answer }

-- a seat's record after its worker worked these pairs
abbrev pub worked : (ℕ → Option ℕ) → Record → List (ℕ × ℕ) → Bool → Record
worked least_bad r pairs dry = record {
  worker = r.worker;
  taken = r.taken ++ blocks_of pairs;
  dry = dry;
  reported = r.reported ++ answers least_bad
      pairs;
  seens = r.seens ++ seens_of pairs;
}

-- A worker's loop took and saw some pairs, in this order, and reported the answers at them.
-- Its seat is dry, and its part stands for these pairs behind those that it stood for.
pub record IsLoop {P : Type 0} (least_bad : ℕ → Option ℕ) (stands : P → List (ℕ × ℕ) → Type 0)
    (before : Record) (part : P) (after : Record) (part_after : P) : Type 0 where
  pub pairs : List (ℕ × ℕ)
  pub seat : after ≡ worked least_bad before pairs true
  pub grown : (l : List (ℕ × ℕ)) → stands part l → stands part_after (l ++ pairs)
  pub fits : All (λ p. p.1 ≤ nothing_bad) pairs

-- each worker's loop, at its own index
abbrev pub AreLoops : {S P : Type 0} → (ℕ → Option ℕ) → (P → List (ℕ × ℕ) → Type 0) → (S → Record) → List S
    → List P → List S → List P → Type 0
AreLoops {S} {P} least_bad stands record_of seats parts seats_after parts_after = (worker : ℕ) (s : S) (p : P)
    → worker < length seats
    → IsLoop least_bad stands (record_of (slice_index_or seats worker s)) (slice_index_or parts worker p)
    (record_of (slice_index_or seats_after worker s)) (slice_index_or parts_after worker p)

-- A round: the claims are legal, and each part stands for the pairs of its worker behind those that it stood for.
-- No number that was seen is below the least bad number.
pub record IsRound {P : Type 0} (stands : P → List (ℕ × ℕ) → Type 0)
    (plan : Plan) (owners : List ℕ) (least_bad : ℕ) (parts parts_after : List P) : Type 0 where
  pub pairs : List (List (ℕ × ℕ))
  pub legal : IsLegal plan owners (map blocks_of pairs)
  pub grown : (worker : ℕ) (p : P) → worker < plan.workers → (l : List (ℕ × ℕ))
      → stands (slice_index_or parts worker p) l
      → stands (slice_index_or parts_after worker p) (l ++ slice_index_or pairs worker [])
  pub seen : All (λ ps. All (λ p. (least_bad ≤ p.1) × (p.1 ≤ nothing_bad)) ps) pairs

-- the blocks, each seen with nothing bad
abbrev pub all_clean : List ℕ → List (ℕ × ℕ)
all_clean blocks = map (λ b. (b, nothing_bad)) blocks

-- A round with nothing bad: the claims are legal, and each part stands for its worker's blocks besides, each seen
-- with nothing bad.
pub record IsCleanRound {P : Type 0} (stands : P → List (ℕ × ℕ) → Type 0)
    (plan : Plan) (owners : List ℕ) (parts parts_after : List P) : Type 0 where
  pub blocks : List (List ℕ)
  pub legal : IsLegal plan owners blocks
  pub grown : (worker : ℕ) (p : P) → worker < plan.workers → (l : List (ℕ × ℕ))
      → stands (slice_index_or parts worker p) l
      → stands (slice_index_or parts_after worker p) (l ++ all_clean (slice_index_or blocks worker []))

-- the number is the least bad number of these blocks, or 2^64 - 1 if they have none
pub record IsLeastOfRound (least_bad : ℕ → Option ℕ) (blocks number : ℕ) : Type 0 where
  pub none_less : (block bad : ℕ) → block < blocks → least_bad block ≡ Some bad → number ≤ bad
  pub found : number < nothing_bad → (block : ℕ) × (block < blocks) × (least_bad block ≡ Some number)
  pub clean : number ≡ nothing_bad → (block : ℕ) → block < blocks → least_bad block ≡ None
