use Rattle.std.proofs.Common.{◌+◌, ◌≤◌, sym, subst, arith}
use Rattle.arithmetic.specs.Fractions.{IsResidue}
use Rattle.factor_table.specs.Seats.{parameters_of}
use Rattle.table_sum.specs.Numberings.{one_numbering}
use Rattle.table_sum.proofs.Powers.{residue_times}
use Rattle.table_sum.proofs.Lacking.{lacks_numbering, of_err, on_err}
use Rattle.table_sum.proofs.tree.start_residue.Goals as goal

pub returns-clause-value : goal.returns-clause-value
returns-clause-value c =
    let column = c.args.column.now in
    let p = parameters_of column.table.now in
    let at_index = (c.in_ok-numbering.ensures p.moduli column.within c.requires.numberings).value in
    let at_modulus =
    subst (λ m. IsResidue m (one_numbering c.vertices.result) c.in_ok-numbering.numbering)
    (sym column.is_modulus) at_index in
    let numbering =
    subst
    (λ n. IsResidue column.modulus.now (one_numbering n) c.in_ok-numbering.numbering) c.vertices.ensures.value at_modulus in
    residue_times column.above numbering c.in_ok-edges.ensures.value c.mul.ensures.value

pub returns-in_err-numbering-clause-refused : goal.returns-in_err-numbering-clause-refused
returns-in_err-numbering-clause-refused c =
    let column = c.args.column.now in
    let p = parameters_of column.table.now in
    let own = c.vertices.ensures.most in
    let degree = c.requires.shape.degrees in
    let most : c.vertices.result ≤ p.degree + 1 = omega arith in
    on_err _ _ (of_err _ _ c.in_err-numbering.was
    (lacks_numbering p column.index c.vertices.result c.residue.result most (c.residue.ensures p.moduli column.within c.requires.numberings)))
