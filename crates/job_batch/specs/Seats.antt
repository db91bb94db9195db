-- What the seats at the deque of a batch know.
use Rattle.std.specs.Prelude.{◌≡◌, ℕ, ◌+◌, ◌<◌, ◌≤◌}
use Rattle.crossbeam_deque.specs.Handles.{worker_deque, worker_view, worker_index, worker_capacity, stealer_deque, view}
use Rattle.job_batch.specs.declared.rule.Hand.{Hand}
use Rattle.job_batch.specs.declared.seats.OwnerSeat.{OwnerSeat}
use Rattle.job_batch.specs.declared.seats.ThiefSeat.{ThiefSeat}

-- what worker 0 and a thief know
abbrev pub owner_hand : OwnerSeat → Hand
owner_hand s = worker_view s.deque

abbrev pub thief_hand : ThiefSeat → Hand
thief_hand s = view s.pass

-- the deque has room for another place
abbrev pub HasRoom : OwnerSeat → Type 0
HasRoom s = worker_index s.deque < worker_capacity s.deque

-- the seats are at the same deque
abbrev pub AreTogether : OwnerSeat → ThiefSeat → Type 0
AreTogether s t = stealer_deque t.deque ≡ worker_deque s.deque

-- the owner's seat stays at its deque
abbrev pub SameDeque : OwnerSeat → OwnerSeat → Type 0
SameDeque old new = worker_deque new.deque ≡ worker_deque old.deque

abbrev pub SameStealer : ThiefSeat → ThiefSeat → Type 0
SameStealer old new = stealer_deque new.deque ≡ stealer_deque old.deque

-- a new deque with room for so many places
abbrev pub IsOpen : OwnerSeat → ℕ → Type 0
IsOpen s room = (worker_index s.deque ≡ 0) × (room ≤ worker_capacity s.deque)

-- a push uses the room for one place
pub record UsedOne (old new : OwnerSeat) : Type 0 where
  pub same : SameDeque old new
  pub used : worker_index new.deque ≡ worker_index old.deque + 1
  pub room : worker_capacity old.deque ≤ worker_capacity new.deque

-- so many places of the room are used, and there is room for some in all
abbrev pub HasUsed : OwnerSeat → ℕ → ℕ → Type 0
HasUsed s used room = (worker_index s.deque ≡ used) × (room ≤ worker_capacity s.deque)
