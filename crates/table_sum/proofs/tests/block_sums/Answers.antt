use Rattle.std.proofs.Common.{◌<◌, sym, subst, arith}
use Rattle.localisation.specs.Agreement.{modulus_at}
use Rattle.lists.proofs.Padding.{zeros}
use Rattle.range_sum.proofs.RangeLaws.{modulus_above}
use Rattle.table_sum.proofs.tests.block_sums.Goals as goal

pub add_block-requires-clause-below : goal.add_block-requires-clause-below
add_block-requires-clause-below c = λ place h.
    let p = c.of-sum.result.problem.now in
    let above = modulus_above p place in
    subst (λ x. x < modulus_at p.moduli place) (sym (zeros 64 place)) (omega (arith, above))
