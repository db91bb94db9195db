use Rattle.std.proofs.Common.{ap, ◌∙◌}
use Rattle.table_sum.specs.Classes.{are_others}
use Rattle.table_sum.proofs.PsiFree.{free_if}
use Rattle.table_sum.proofs.psi_free.is_psi_free.Goals as goal

pub returns : goal.returns
returns c = free_if c.args.term.now c.are_others.result (c.are_others.ensures ∙ ap are_others c.as_slice.ensures)
