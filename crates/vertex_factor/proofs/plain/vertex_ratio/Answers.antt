use Rattle.std.proofs.Common.{◌≡◌, length, pos, arith}
use Rattle.std.proofs.lemmas.Bool.Decides.{nat_tests}
use Rattle.vertex_factor.specs.Ends.{ends_of}
use Rattle.vertex_factor.proofs.PlainLaws.{length-ends_of, plain-stable, plain-marked}
use Rattle.vertex_factor.proofs.plain.vertex_ratio.Goals as goal
use Rattle.vertex_factor.proofs.plain.vertex_ratio.Goals.{in_default-via-then-ends-lt1, in_default-via-in-len1-up+else-marks-eq0}

pub returns-then-ends-marks-ge3 : goal.returns-then-ends-marks-ge3
returns-then-ends-marks-ge3 c =
    rw (plain-stable c.args.setup.now c.args.c (ends_of c.args.ends.now) c.args.marks (omega (arith, length-ends_of c.args.ends.now))) c.stable.ensures

pub returns-in_default : goal.returns-in_default
returns-in_default c = elim c.in_default.branch [
  | in_default-via-then-ends-lt1 w ↦ absurd (grind (arith, nat_tests))
  | in_default-via-in-len1-up+else-marks-eq0 w ↦
      let one_end : length (ends_of c.args.ends.now) ≡ 1 = omega (arith, length-ends_of c.args.ends.now) in
      rw (plain-marked c.args.setup.now c.args.c (ends_of c.args.ends.now) c.args.marks one_end (omega arith)) (c.whole.ensures (pos 1) c.of_u64.ensures)
]
