use Rattle.std.proofs.Common.{subst}
use Rattle.arithmetic.specs.Fractions.{IsResidue}
use Rattle.arithmetic.proofs.FractionProducts.{times-assoc}
use Rattle.localisation.specs.Contribution.{contribution, edge_factors}
use Rattle.contribution.specs.Terms.{sum_of_terms}
use Rattle.factor_table.specs.Seats.{parameters_of}
use Rattle.table_sum.specs.Numberings.{one_numbering}
use Rattle.table_sum.proofs.Powers.{residue_times}
use Rattle.table_sum.proofs.tree.contribution_residue.Goals as goal

pub returns-clause-value : goal.returns-clause-value
unfolding contribution
returns-clause-value c = λ start.
    let column = c.args.column.now in
    let ws = (parameters_of column.table.now).setup in
    let g = c.args.parts.now.tree in
    subst (λ f. IsResidue column.modulus.now f c.mul.result)
    (times-assoc (one_numbering g.vertices) (edge_factors ws g) (sum_of_terms ws g c.args.terms.now))
    (residue_times column.above start c.in_ok-sum.ensures.value c.mul.ensures.value)
