-- What a seat knows after further words were asked for.
use Rattle.std.proofs.Common.{ℕ}
use Rattle.factor_table.specs.declared.key.Key.{Key}
use Rattle.factor_table.specs.declared.table.FactorTable.{FactorTable}
use Rattle.factor_table.specs.declared.table.FactorSeat.{FactorSeat}
use Rattle.factor_table.specs.Seats.{IsSeatOf, Knows, place_in}
use Rattle.table_sum.specs.Words.{IsLater}

pub later_same : (t : FactorTable) (s : FactorSeat) → IsSeatOf s t → IsLater t s s
later_same t s h = record { seat = h; known = λ place k. k }

pub later_after : (t : FactorTable) (a b c : FactorSeat) → IsLater t a b → IsLater t b c → IsLater t a c
later_after t a b c p q = record { seat = q.seat; known = λ place k. q.known place (p.known place k) }

pub knows_later : (t : FactorTable) (old new : FactorSeat) (key : Key) (m : ℕ) → IsLater t old new → Knows old t key m
    → Knows new t key m
knows_later t old new key m h k = h.known (place_in t key m) k
