use Rattle.factor_table.specs.Seats.{IsSeatOf}
use Rattle.factor_table.proofs.tests.compare_all.Given as goal

abbrev pub invariant-loop-place : goal.invariant-loop-place
invariant-loop-place l = IsSeatOf l.seat l.table

abbrev pub invariant-loop-index : goal.invariant-loop-index
invariant-loop-index l = IsSeatOf l.seat l.table
