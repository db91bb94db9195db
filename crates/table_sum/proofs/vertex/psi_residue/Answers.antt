use Rattle.std.proofs.Common.{◌≡◌, ◌<◌, ◌≤◌, ◌+◌, ◌-◌, length, sum, get_or, pos, sym, subst, ◌∙◌, arith}
use Rattle.arithmetic.specs.Fractions.{IsResidue}
use Rattle.arithmetic.proofs.Residues.{IsResidue-whole}
use Rattle.vertex_factor.specs.Ends.{ends_of}
use Rattle.vertex_factor.proofs.PlainLaws.{length-ends_of, one_end}
use Rattle.vertex_factor.proofs.PsiLaws.{above_dimension, some_exponents}
use Rattle.factor_table.specs.Seats.{parameters_of}
use Rattle.table_sum.proofs.Powers.{residue_times, residue_power}
use Rattle.table_sum.proofs.VertexLaws.{tip_power-is, stable_psi-is}
use Rattle.table_sum.proofs.vertex.psi_residue.Goals as goal

pub returns-then-special-eq2-clause-value : goal.returns-then-special-eq2-clause-value
returns-then-special-eq2-clause-value c =
    let column = c.args.column.now in
    let ps = c.args.ends.now in
    let ks = c.args.exponents.now in
    let marked = some_exponents ks c.requires.exponents_some in
    let one : length ps ≡ 1 = omega (arith, marked) in
    let one_mark : length ks ≡ 1 = omega (arith, marked) in
    let sum_is = c.sum-exponent.ensures in
    subst (λ f. IsResidue column.modulus.now f c.pow.result)
    (tip_power-is (parameters_of column.table.now).setup c.args.c (ends_of ps) ks (get_or ps 0 (0, 0)).0 (get_or ps 0 (0, 0)).1 c.sum-exponent.result
    (one_end ps one) one_mark sum_is (λ e. c.requires.exponents_some (sym sum_is ∙ e)))
    (residue_power c.sum-exponent.result column.above c.in_ok-tip.ensures.value c.pow.ensures.value)

pub returns-then-special-exponent-clause-value : goal.returns-then-special-exponent-clause-value
returns-then-special-exponent-clause-value c =
    let column = c.args.column.now in
    let es = ends_of c.args.ends.now in
    let ks = c.args.exponents.now in
    let ends_are = length-ends_of c.args.ends.now in
    let marked = some_exponents ks c.requires.exponents_some in
    let stable : 3 ≤ length es + length ks = omega (arith, ends_are, marked) in
    let above : length es + length ks - 3 < sum ks = omega (arith, ends_are) in
    rw (above_dimension (parameters_of column.table.now).setup c.args.c es ks stable above) (IsResidue-whole (pos 0) c.of_u64.ensures)

pub returns-clause-value : goal.returns-clause-value
returns-clause-value c =
    let column = c.args.column.now in
    let ps = c.args.ends.now in
    let ks = c.args.exponents.now in
    let marked = some_exponents ks c.requires.exponents_some in
    let exponent = c.sum-exponent.result in
    let sum_is = c.sum-exponent.ensures in
    let n = length ps + length ks - 3 - exponent in
    let count : length ps + length ks ≡ n + 3 + sum ks = omega (arith, marked) in
    subst (λ f. IsResidue column.modulus.now f c.mul.result)
    (stable_psi-is (parameters_of column.table.now).setup c.args.c (ends_of ps) ks (length ps) n c.multinomial.result (length-ends_of ps) count
    c.requires.exponents_some c.multinomial.ensures)
    (residue_times column.above c.in_ok-at_ends.ensures.value (IsResidue-whole (pos c.multinomial.result) c.of_u64-ways.ensures) c.mul.ensures.value)
