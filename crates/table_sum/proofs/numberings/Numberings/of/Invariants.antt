use Rattle.std.proofs.Common.{◌≡◌, ℕ, ◌<◌, [], length, slice_index, slice_index_or}
use Rattle.table_sum.specs.Numberings.{AreInverses}
use Rattle.table_sum.proofs.numberings.Numberings.of.Given as goal

abbrev pub invariant-loop-index : goal.invariant-loop-index
invariant-loop-index l = record {
  size : length l.rows ≡ 8;
  each : (k : ℕ) → k < l.index → AreInverses (slice_index l.moduli k) (slice_index_or l.rows k []);
}
