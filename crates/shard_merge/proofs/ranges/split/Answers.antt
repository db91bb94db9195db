use Rattle.std.proofs.Common.{arith}
use Rattle.shard_merge.proofs.Tiles.{ranges_tile, range_within}
use Rattle.shard_merge.proofs.ranges.split.Goals as goal

pub returns-clause-tiles : goal.returns-clause-tiles
returns-clause-tiles c =
    rw (← c.count-count.ensures.value) (ranges_tile c.count-count.result c.args.shards c.requires.least (omega arith))

pub returns-clause-within : goal.returns-clause-within
returns-clause-within c =
    rw (← c.count-count.ensures.value) (range_within c.count-count.result c.args.shards c.args.index (omega arith))
