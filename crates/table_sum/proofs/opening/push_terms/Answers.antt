use Rattle.std.proofs.Common.{◌++◌, ap, ◌∙◌}
use Rattle.table_sum.specs.Classes.{classes_of_term, classes_of_powers}
use Rattle.table_sum.proofs.ClassLaws.{flat-next}
use Rattle.table_sum.proofs.opening.push_terms.Goals as goal

pub loop-term-preserved : goal.loop-term-preserved
loop-term-preserved c =
    flat-next classes_of_term c.args.classes.now.items c.loop-term.classes.items c.push_powers.new.classes.items c.args.terms.now c.loop-term.term-index c.term-item.result
    c.loop-term-test.true c.term-item.is c.loop-term.invariant
    (c.in_ok-push_powers.ensures ∙ ap (λ ps. c.loop-term.classes.items ++ classes_of_powers ps) c.as_slice.ensures)
