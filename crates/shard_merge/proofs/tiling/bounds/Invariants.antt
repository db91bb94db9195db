use Rattle.std.proofs.Common.{◌≡◌, drop}
use Rattle.shard_merge.specs.Merges.{ranges_of, range_at}
use Rattle.shard_merge.specs.Walks.{least_from, greatest_from}
use Rattle.shard_merge.proofs.tiling.bounds.Given as goal

abbrev pub invariant-loop-shard : goal.invariant-loop-shard
invariant-loop-shard l = record {
  first : least_from l.first (ranges_of (drop l.shard-index l.shards)) ≡ least_from (range_at (ranges_of l.shards) 0).0 (ranges_of l.shards);
  end : greatest_from l.end (ranges_of (drop l.shard-index l.shards)) ≡ greatest_from (range_at (ranges_of l.shards) 0).1 (ranges_of l.shards);
}
