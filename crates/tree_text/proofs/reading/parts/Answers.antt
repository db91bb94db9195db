use Rattle.std.proofs.Common.{sym, ap, ◌∙◌, arith}
use Rattle.std.proofs.lemmas.List.{length-take-le, take_all}
use Rattle.tree_text.specs.Steps.{first_reader}
use Rattle.tree_text.proofs.Readings.{read_so, read_more, stopped, unfinished, whole_read}
use Rattle.tree_text.proofs.Lengths.{read_short}
use Rattle.tree_text.proofs.Runs.{run}
use Rattle.tree_text.proofs.reading.parts.Goals as goal

pub after-requires : goal.after-requires
after-requires c = (read_so _ c.loop-place.reader c.loop-place.invariant).reading

pub overflow_cast-result : goal.overflow_cast-result
overflow_cast-result c =
    omega (arith, read_short _ c.loop-place.reader c.loop-place.invariant, length-take-le c.loop-place.place c.args.text.now (omega arith))

pub returns-in-None-clause-refused : goal.returns-in-None-clause-refused
returns-in-None-clause-refused c =
    stopped c.args.text.now c.loop-place.place c.loop-place.reader c.loop-place-test.true c.loop-place.invariant (sym c.after.ensures ∙ c.in-None.is)

pub loop-place-preserved : goal.loop-place-preserved
loop-place-preserved c =
    read_more c.args.text.now c.loop-place.place c.loop-place.reader c.in-Some.next c.loop-place-test.true c.loop-place.invariant (sym c.after.ensures ∙ c.in-Some.is)

pub finished-requires : goal.finished-requires
finished-requires c = (read_so _ c.loop-place.reader c.loop-place.invariant).reading

pub overflow_cast-result-in-None-finished : goal.overflow_cast-result-in-None-finished
overflow_cast-result-in-None-finished c =
    let whole = take_all c.loop-place.place c.args.text.now (omega arith) in
    omega (arith, read_short c.args.text.now c.loop-place.reader (ap (run first_reader) (sym whole) ∙ c.loop-place.invariant))

pub returns-in-Some-finished-clause-parts : goal.returns-in-Some-finished-clause-parts
returns-in-Some-finished-clause-parts c =
    let whole = take_all c.loop-place.place c.args.text.now (omega arith) in
    whole_read c.args.text.now c.loop-place.reader c.in-Some-finished.parts (ap (run first_reader) (sym whole) ∙ c.loop-place.invariant)
    (sym c.finished.ensures ∙ c.in-Some-finished.is)

pub returns-in-None-finished-clause-refused : goal.returns-in-None-finished-clause-refused
returns-in-None-finished-clause-refused c =
    let whole = take_all c.loop-place.place c.args.text.now (omega arith) in
    unfinished c.args.text.now c.loop-place.reader (ap (run first_reader) (sym whole) ∙ c.loop-place.invariant) (sym c.finished.ensures ∙ c.in-None-finished.is)
