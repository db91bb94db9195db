use Rattle.std.proofs.Common.{length, ap, ◌+◌, ◌-◌}
use Rattle.arithmetic.proofs.Modular.{Leaves-mul, Leaves-pow}
use Rattle.vertex_factor.specs.Ends.{ends_of}
use Rattle.vertex_factor.proofs.PlainLaws.{length-ends_of}
use Rattle.vertex_factor.proofs.PsiLaws.{stable_psi_top, stable_psi_bottom}
use Rattle.vertex_factor.proofs.psi.stable_psi.Goals as goal

pub returns : goal.returns
returns c =
    let ws = c.args.setup.now in
    let es = ends_of c.args.ends.now in
    let ks = c.args.exponents.now in
    let s = length c.args.ends.now in
    let left = ap (λ n. s + length ks - 3 - n) c.sum.ensures in
    record {
      top = stable_psi_top ws c.args.c es ks s _ _ (length-ends_of c.args.ends.now) left c.multinomial.ensures
          (Leaves-mul
          (Leaves-mul
          (Leaves-mul (Leaves-pow _ c.tangent.ensures c.pow-tangents.ensures.value) c.sums_over-sums.ensures.degrees c.mul-at_ends.ensures.value)
          (Leaves-pow _ c.sums_over-sums.ensures.crossed c.pow.ensures.value) c.mul-crossed.ensures.value)
          c.of_u64-ways.ensures c.mul.ensures.value);
      bottom =
          stable_psi_bottom ws c.args.c es ks s _
          (length-ends_of c.args.ends.now) left c.requires.stable c.requires.within
          (Leaves-pow _ c.sums_over-sums.ensures.differences c.pow-2.ensures.value);
    }
