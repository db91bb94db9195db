use Rattle.std.proofs.Common.{◌≡◌, drop}
use Rattle.shard_merge.specs.Merges.{ranges_of}
use Rattle.shard_merge.specs.Walks.{end_past}
use Rattle.shard_merge.proofs.tiling.end_past.Given as goal

abbrev pub invariant-loop-shard : goal.invariant-loop-shard
invariant-loop-shard l = end_past l.number (ranges_of (drop l.shard-index l.shards)) ≡ end_past l.number (ranges_of l.shards)
