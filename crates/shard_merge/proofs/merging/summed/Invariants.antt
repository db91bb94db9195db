use Rattle.std.proofs.Common.{take}
use Rattle.problem.specs.Problems as problems
use Rattle.shard_merge.proofs.Sums.{SumsOf}
use Rattle.shard_merge.proofs.merging.summed.Given as goal

abbrev pub invariant-loop-shard : goal.invariant-loop-shard
invariant-loop-shard l = SumsOf (problems.view l.problem) (take l.shard-index l.shards) l.sums.items
