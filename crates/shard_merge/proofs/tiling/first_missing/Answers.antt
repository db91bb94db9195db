use Rattle.std.proofs.Common.{sym, ◌∙◌, ◌<◌, arith}
use Rattle.shard_merge.specs.Merges.{ranges_of}
use Rattle.shard_merge.proofs.Walked.{reached_more, end_missing, end_grows}
use Rattle.shard_merge.proofs.tiling.first_missing.Goals as goal

pub loop-end-smaller : goal.loop-end-smaller
loop-end-smaller c =
    let grows : c.loop-end.number < c.in-Some.end =
    end_grows c.loop-end.number (ranges_of c.args.shards.now) c.in-Some.end (sym c.in-Some.ensures) in
    omega arith

pub loop-end-preserved : goal.loop-end-preserved
loop-end-preserved c =
    reached_more (ranges_of c.args.shards.now) c.args.first c.loop-end.number c.in-Some.end c.loop-end.invariant
    (sym c.in-Some.ensures)

pub returns-clause-missing : goal.returns-clause-missing
returns-clause-missing c =
    end_missing c.loop-end.number (ranges_of c.args.shards.now) (sym c.in_default.ensures)
