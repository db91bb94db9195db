use Rattle.std.proofs.Common.{◌≡◌, drop}
use Rattle.shard_merge.specs.Merges.{ranges_of}
use Rattle.shard_merge.specs.Walks.{pair_from}
use Rattle.shard_merge.proofs.tiling.first_pair.Given as goal

abbrev pub invariant-loop-place : goal.invariant-loop-place
invariant-loop-place l = pair_from l.place (ranges_of (drop l.place l.shards)) ≡ pair_from 0 (ranges_of l.shards)
