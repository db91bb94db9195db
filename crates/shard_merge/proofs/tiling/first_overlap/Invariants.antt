use Rattle.std.proofs.Common.{◌≡◌, ◌+◌, drop}
use Rattle.shard_merge.specs.Merges.{ranges_of}
use Rattle.shard_merge.specs.Walks.{overlap_from}
use Rattle.shard_merge.proofs.tiling.first_overlap.Given as goal

abbrev pub invariant-loop-index : goal.invariant-loop-index
invariant-loop-index l =
    overlap_from (l.shard.first, l.shard.end) (l.place + l.index) (ranges_of (drop l.index l.others)) ≡ overlap_from (l.shard.first, l.shard.end) l.place (ranges_of l.others)
