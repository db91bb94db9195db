use Rattle.std.proofs.Common.{◌≡◌, ◌+◌, ◌-◌, length, pos, subst, arith}
use Rattle.std.proofs.lemmas.Bool.Decides.{nat_tests}
use Rattle.arithmetic.proofs.Residues.{IsResidue-whole}
use Rattle.vertex_factor.specs.Ends.{ends_of}
use Rattle.vertex_factor.proofs.PlainLaws.{length-ends_of, plain-marked}
use Rattle.factor_table.specs.Seats.{parameters_of}
use Rattle.table_sum.specs.Words.{MayGive}
use Rattle.table_sum.proofs.VertexLaws.{stable-is}
use Rattle.table_sum.proofs.vertex.plain_residue.Goals as goal
use Rattle.table_sum.proofs.vertex.plain_residue.Goals.{in_default-via-then-ends-lt1, in_default-via-in-len1-up+else-marks-eq0}

pub returns-then-special-ge3-clause-value : goal.returns-then-special-ge3-clause-value
returns-then-special-ge3-clause-value c =
    let column = c.args.column.now in
    let ps = c.args.ends.now in
    let ends_are = length-ends_of ps in
    let many = c.if-special-ge3.true in
    subst (λ f. MayGive column.modulus.now f c.power_at_ends.result)
    (stable-is (parameters_of column.table.now).setup c.args.c (ends_of ps) c.args.marks (length ps + c.args.marks - 3) (omega (arith, ends_are, many)))
    c.power_at_ends.ensures.value

pub returns-in_default-clause-value : goal.returns-in_default-clause-value
returns-in_default-clause-value c = elim c.in_default.branch [
  | in_default-via-then-ends-lt1 w ↦ absurd (grind (arith, nat_tests))
  | in_default-via-in-len1-up+else-marks-eq0 w ↦
      let column = c.args.column.now in
      let ps = c.args.ends.now in
      let one_end : length (ends_of ps) ≡ 1 = omega (arith, length-ends_of ps) in
      rw (plain-marked (parameters_of column.table.now).setup c.args.c (ends_of ps) c.args.marks one_end (omega arith)) (IsResidue-whole (pos 1) c.of_u64.ensures)
]
