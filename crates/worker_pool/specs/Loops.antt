-- What the loops of several workers need and what they leave, and what may cross threads for it.
use Rattle.std.specs.Prelude.{◌≡◌, ℕ, ◌<◌, List, Option, length, All}
use Rattle.std.specs.Thread.{IsSync, IsSend}
use denote.RattleType.{RattleType}
use Rattle.claim_table.specs.declared.claimer.Record.{Record}
use Rattle.worker_pool.specs.Rounds.{AreLoops}

-- each seat sits at the board and has no hand
abbrev pub AreSeated : {S B : Type 0} → (S → Type 0) → (S → B → Type 0) → B → List S → Type 0
AreSeated is_free sits_at board seats = All (λ s. sits_at s board × is_free s) seats

-- there are seats, and a part that is ready for each of them
abbrev pub AreReady : {S B P : Type 0} → (S → Type 0) → (S → B → Type 0) → B → (P → Type 0) → List S → List P → Type 0
AreReady is_free sits_at board is_ready seats parts =
    (0 < length seats) × (length parts ≡ length seats) × AreSeated is_free sits_at board seats × All is_ready parts

-- seats and parts are as they were in these ways, and each worker's loop has run
abbrev pub HaveRun : {S B P : Type 0} → (S → Type 0) → (S → B → Type 0) → B → (P → Type 0) → (ℕ → Option ℕ)
    → (P → List (ℕ × ℕ) → Type 0) → (S → Record) → List S → List P → List S → List P → Type 0
HaveRun is_free sits_at board is_ready least_bad stands record_of seats parts seats_after parts_after =
    AreSeated is_free sits_at board seats_after × All is_ready parts_after
    × AreLoops least_bad stands record_of seats parts seats_after parts_after

-- Threads may share what starts them, the job, the gate and the board, and seats and parts may go to other threads.
abbrev pub MayCross : RattleType → RattleType → RattleType → RattleType → RattleType → RattleType → Type 0
MayCross threads job gate board seat part = IsSync threads × IsSync job × IsSync gate × IsSync board × IsSend seat
    × IsSend part
