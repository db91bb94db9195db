use Rattle.std.proofs.Common.{length}
use Rattle.arithmetic.proofs.Modular.{Leaves-mul, Leaves-pow}
use Rattle.vertex_factor.specs.Ends.{ends_of}
use Rattle.vertex_factor.proofs.PlainLaws.{length-ends_of, stable_top, stable_bottom}
use Rattle.vertex_factor.proofs.plain.stable.Goals as goal

pub returns : goal.returns
returns c =
    let es = ends_of c.args.ends.now in
    let s = length c.args.ends.now in
    record {
      top = stable_top c.args.setup.now c.args.c es c.args.marks s (length-ends_of c.args.ends.now)
          (Leaves-mul
          (Leaves-mul (Leaves-pow _ c.tangent.ensures c.pow-tangents.ensures.value) c.sums_over-sums.ensures.degrees c.mul-at_ends.ensures.value)
          (Leaves-pow _ c.sums_over-sums.ensures.crossed c.pow.ensures.value) c.mul.ensures.value);
      bottom = stable_bottom c.args.setup.now c.args.c es c.args.marks s (length-ends_of c.args.ends.now)
          (Leaves-pow _ c.sums_over-sums.ensures.differences c.pow-2.ensures.value);
    }
