-- What the reader answers is the reading of the text, for texts of any length; the four clauses follow from the laws on
-- readings, shards and refusals.
use Rattle.std.proofs.Common.{Ok, Err}
use Rattle.shard_merge.proofs.ReadingLaws.{shard_is_read, refusal_is_read, gives_shard, gives_refusal, gives_only}
use Rattle.shard_merge.proofs.reading.read.Goals as goal

pub returns-clause-shard : goal.returns-clause-shard
returns-clause-shard c = gives_shard c.read_any_length.result c.args.text.now c.read_any_length.ensures.value

pub returns-clause-refusal : goal.returns-clause-refusal
returns-clause-refusal c = gives_refusal c.read_any_length.result c.args.text.now c.read_any_length.ensures.value

pub returns-clause-only_shard : goal.returns-clause-only_shard
returns-clause-only_shard c s is has =
    gives_only c.read_any_length.result c.args.text.now c.read_any_length.ensures.value (Ok s)
    (shard_is_read c.args.text.now s is has)

pub returns-clause-only_refusal : goal.returns-clause-only_refusal
returns-clause-only_refusal c error refused =
    gives_only c.read_any_length.result c.args.text.now c.read_any_length.ensures.value (Err error)
    (refusal_is_read c.args.text.now error refused)
