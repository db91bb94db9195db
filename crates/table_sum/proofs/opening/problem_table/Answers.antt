use Rattle.std.proofs.Common.{◌++◌, ◌≤◌, length, sym, ap, subst, ◌∙◌}
use Rattle.table_sum.specs.Classes.{classes_of}
use Rattle.table_sum.proofs.ProblemLaws.{few_classes}
use Rattle.table_sum.proofs.opening.problem_table.Goals as goal

pub new-requires-clause-classes : goal.new-requires-clause-classes
new-requires-clause-classes c =
    let all = c.as_slice-2.ensures.value ∙ c.in_ok-push_integrals.ensures ∙ ap (λ cs. cs ++ classes_of c.as_slice.result.now) c.new-classes.ensures.items
    ∙ ap classes_of c.as_slice.ensures in
    subst (λ cs. length cs ≤ 512) (sym all) (few_classes c.args.problem.now)
