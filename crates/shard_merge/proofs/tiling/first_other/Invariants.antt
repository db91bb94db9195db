use Rattle.std.proofs.Common.{◌≡◌, ℕ, ◌<◌, drop, slice_index_or}
use Rattle.shard_merge.specs.Merges.{sources_of}
use Rattle.shard_merge.specs.Shards.{ShardView, IsShard}
use Rattle.shard_merge.specs.Walks.{other_from}
use Rattle.shard_merge.proofs.tiling.first_other.Given as goal

abbrev pub invariant-loop-place : goal.invariant-loop-place
invariant-loop-place l = record {
  walk : other_from l.source l.place (sources_of (drop l.place l.shards)) ≡ other_from l.source 0 (sources_of l.shards);
  shards : (i : ℕ) (d : ShardView) → i < l.place → IsShard (slice_index_or l.shards i d);
}
