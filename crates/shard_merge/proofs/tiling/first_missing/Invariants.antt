use Rattle.std.proofs.Common.{◌-◌, ◌^◌}
use Rattle.shard_merge.specs.Merges.{ranges_of}
use Rattle.shard_merge.specs.Walks.{IsReached}
use Rattle.shard_merge.proofs.tiling.first_missing.Given as goal

abbrev pub invariant-loop-end : goal.invariant-loop-end
invariant-loop-end l = IsReached (ranges_of l.shards) l.first l.number

abbrev pub decreases-loop-end : goal.decreases-loop-end
decreases-loop-end l = 2 ^ 64 - l.number
