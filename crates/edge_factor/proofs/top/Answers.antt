use Rattle.std.proofs.Common.{arith, ◌≡◌, ◌+◌, ◌-◌, ◌*◌, ◌^◌, ◌%◌, ap, ◌∙◌, length}
use Rattle.arithmetic.proofs.Modular.{Leaves-mul, Leaves-pow}
use Rattle.localisation.specs.EdgeFraction.{edge_top}
use Rattle.edge_factor.proofs.top.Goals as goal

pub returns : goal.returns
unfolding edge_top
returns c =
    let rank : c.rank-rank.result ≡ length c.args.setup.now - 1 = omega arith in
    Leaves-mul
    (Leaves-mul c.sign.ensures
    (Leaves-pow _ c.of_u64-of_degree.ensures c.pow.ensures.value) c.mul-signed.ensures.value)
    (Leaves-pow _ c.of_u64-of_degree.ensures
    (c.pow-2.ensures.value ∙ ap (λ r. (c.of_u64-of_degree.result ^ ((r - 1) * (c.args.a + 1))) % c.args.modulus.now) rank))
    c.mul.ensures.value
