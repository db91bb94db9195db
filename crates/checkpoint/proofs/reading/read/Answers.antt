-- What the reader answers is the reading of the text, for texts of any length; the four clauses follow from the laws on
-- readings, states and refusals.
use Rattle.std.proofs.Common.{Ok, Err}
use Rattle.checkpoint.proofs.ReadingLaws.{state_is_read, refusal_is_read, gives_state, gives_refusal, gives_only}
use Rattle.checkpoint.proofs.reading.read.Goals as goal

pub returns-clause-state : goal.returns-clause-state
returns-clause-state c = gives_state c.read_any_length.result c.args.text.now c.read_any_length.ensures.value

pub returns-clause-refusal : goal.returns-clause-refusal
returns-clause-refusal c = gives_refusal c.read_any_length.result c.args.text.now c.read_any_length.ensures.value

pub returns-clause-only_state : goal.returns-clause-only_state
returns-clause-only_state c s is has =
    gives_only c.read_any_length.result c.args.text.now c.read_any_length.ensures.value (Ok s)
    (state_is_read c.args.text.now s is has)

pub returns-clause-only_refusal : goal.returns-clause-only_refusal
returns-clause-only_refusal c error refused =
    gives_only c.read_any_length.result c.args.text.now c.read_any_length.ensures.value (Err error)
    (refusal_is_read c.args.text.now error refused)
