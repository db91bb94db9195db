-- Objects of the outside in memory, as contracts see them.
use Rattle.std.specs.Prelude.{◌≡◌, ℕ, ◌+◌, ◌-◌, ◌^◌, min, List, Bool, false, Option, length, get_or}
use Rattle.locus_io.specs.Content.{NamedFiles}

-- one more, up to the last value of a count
abbrev pub counted : ℕ → ℕ
counted count = min (count + 1) (2 ^ 64 - 1)

-- files, the numbers of the loads that are to fail, and what was counted so far
pub record FilesInMemory : Type 0 where
  pub files : NamedFiles
  pub failing : List ℕ
  pub next_call : ℕ
  pub faults : ℕ
  pub last_fault : Option (List ℕ)

-- the bytes written, the room for them, the most that a call takes, the numbers of the calls that are to fail, and
-- what was counted so far
pub record SinkInMemory : Type 0 where
  pub written : List ℕ
  pub room : ℕ
  pub most : ℕ
  pub failing : List ℕ
  pub next_call : ℕ
  pub is_flushed : Bool
  pub faults : ℕ

-- how much of a piece of this length a call takes
abbrev pub taken_of : SinkInMemory → ℕ → ℕ
taken_of sink length_of_piece = min (min length_of_piece sink.most) (sink.room - length sink.written)

-- the room is used up
abbrev pub IsFull : SinkInMemory → Type 0
IsFull sink = sink.room - length sink.written ≡ 0

-- the answers in order, how often a stopper was asked, and what was counted so far
pub record StopperInMemory : Type 0 where
  pub answers : List Bool
  pub asked : ℕ
  pub stops : ℕ
  pub last_stop : Option (List ℕ)

-- the answer to a question, counted from 0: no after the end of the answers
abbrev pub answer_at : List Bool → ℕ → Bool
answer_at answers question = get_or answers question false
