use Rattle.std.proofs.Common.{◌≡◌, map, take}
use Rattle.table_sum.specs.Sums.{problem_of, table_of}
use Rattle.cross_job.proofs.tables.table_sums.Given as goal

abbrev pub invariant-loop-index : goal.invariant-loop-index
invariant-loop-index l = record {
  problems : map problem_of l.sums.items ≡ take l.index l.problems;
  tables : map table_of l.sums.items ≡ take l.index l.tables;
}
