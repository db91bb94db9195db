use Rattle.std.proofs.Common.{◌++◌, ap, ◌∙◌}
use Rattle.table_sum.specs.Classes.{classes_of_terms}
use Rattle.table_sum.proofs.ClassLaws.{flat-next}
use Rattle.table_sum.proofs.opening.push_integrals.Goals as goal

pub loop-terms-preserved : goal.loop-terms-preserved
loop-terms-preserved c =
    flat-next classes_of_terms c.args.classes.now.items c.loop-terms.classes.items c.push_terms.new.classes.items c.args.integrals.now c.loop-terms.terms-index c.terms-item.result
    c.loop-terms-test.true c.terms-item.is c.loop-terms.invariant
    (c.in_ok-push_terms.ensures ∙ ap (λ ts. c.loop-terms.classes.items ++ classes_of_terms ts) c.as_slice.ensures)
