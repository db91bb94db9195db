use Rattle.arithmetic.proofs.Modular.{Leaves-pow}
use Rattle.localisation.specs.Weights.{weight}
use Rattle.localisation.specs.VertexFraction.{psi_vertex}
use Rattle.vertex_factor.proofs.PsiLaws.{negated_difference}
use Rattle.vertex_factor.proofs.psi.psi_tip.Goals as goal

pub returns : goal.returns
unfolding psi_vertex
returns c =
    let ws = c.args.setup.now in
    record {
      top = Leaves-pow c.args.exponent
          (rw (negated_difference (weight ws c.args.c) (weight ws c.args.u)) c.difference.ensures) c.pow.ensures.value;
      bottom = Leaves-pow c.args.exponent c.of_u64.ensures c.pow-2.ensures.value;
    }
