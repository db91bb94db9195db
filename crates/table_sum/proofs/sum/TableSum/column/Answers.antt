use Rattle.std.proofs.Common.{◌<◌, length, slice_index, ap, ap₂, sym, subst, ◌∙◌}
use Rattle.factor_table.specs.Factors.{modulus_in}
use Rattle.factor_table.specs.Seats.{parameters_of}
use Rattle.table_sum.proofs.ProblemLaws.{table_few_classes, table_moduli}
use Rattle.table_sum.proofs.sum.TableSum.column.Goals as goal

pub of-requires-clause-index : goal.of-requires-clause-index
of-requires-clause-index c =
    let s = c.args.self.now in
    subst (λ ms. c.args.index < length ms) (sym (table_moduli s.problem.now s.table.now s.its_table)) c.requires

pub of-requires-clause-classes : goal.of-requires-clause-classes
of-requires-clause-classes c = let s = c.args.self.now in table_few_classes s.problem.now s.table.now s.its_table

pub returns-clause-modulus : goal.returns-clause-modulus
returns-clause-modulus c =
    let s = c.args.self.now in
    c.of.result.is_modulus
    ∙ ap₂ (λ t index. modulus_in (parameters_of t) index) c.of.ensures.table c.of.ensures.index
    ∙ ap (λ ms. slice_index ms c.args.index) (table_moduli s.problem.now s.table.now s.its_table)
