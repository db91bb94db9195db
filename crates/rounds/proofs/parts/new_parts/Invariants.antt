use Rattle.std.proofs.Common.{◌≡◌, ◌+◌, length, All}
use Rattle.factor_table.specs.declared.table.FactorTable.{FactorTable}
use Rattle.factor_table.specs.Seats.{IsSeatOf}
use Rattle.rounds.proofs.parts.new_parts.Given as goal

abbrev pub invariant-loop-seat : goal.invariant-loop-seat
invariant-loop-seat l = record {
  many : length l.parts.items + length l.seats.items ≡ length l.initial.seats.items;
  seats : (table : FactorTable) → All (λ seat. IsSeatOf seat table) l.initial.seats.items
      → All (λ part. IsSeatOf part.seat table) l.parts.items × All (λ seat. IsSeatOf seat table) l.seats.items;
}

abbrev pub decreases-loop-seat : goal.decreases-loop-seat
decreases-loop-seat l = length l.seats.items
