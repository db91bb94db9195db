use Rattle.std.proofs.lemmas.Result.{IfOk-at_ok}
use Rattle.arithmetic.specs.Fractions.{IsResidue}
use Rattle.table_sum.proofs.Powers.{residue_times}
use Rattle.table_sum.proofs.edges.times.Goals as goal

pub returns-clause-product : goal.returns-clause-product
returns-clause-product c = λ f g p q.
    let column = c.args.column.now in
    residue_times column.above
    (IfOk-at_ok (λ x. IsResidue column.modulus.now f x) c.in_ok-first.was p)
    (IfOk-at_ok (λ x. IsResidue column.modulus.now g x) c.in_ok-second.was q) c.times.ensures.value
