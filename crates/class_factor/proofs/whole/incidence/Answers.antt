use Rattle.std.proofs.Common.{subst, arith}
use Rattle.arithmetic.specs.Numbers.{Leaves, integer_sum}
use Rattle.arithmetic.proofs.Modular.{Leaves-add}
use Rattle.localisation.specs.ClassValue.{incidence_at}
use Rattle.tree_parts.specs.Edges.{coloured_edge}
use Rattle.class_factor.proofs.Values.{of_edge, total-more, every_edge}
use Rattle.class_factor.proofs.whole.incidence.Goals as goal

pub loop-edge-preserved : goal.loop-edge-preserved
loop-edge-preserved c =
    rw (total-more (of_edge (incidence_at c.args.setup.now c.args.q)) c.edges-edges.result.now c.loop-edge.edge-index (coloured_edge 0 0 0) c.loop-edge-test.true)
    (Leaves-add c.loop-edge.invariant c.incidence_at-at_edge.ensures c.add-sum.ensures.value)

pub returns : goal.returns
returns c =
    let past = c.loop-edge-test.false in
    subst (λ zs. Leaves c.args.modulus.now (integer_sum zs) c.loop-edge.sum)
    (every_edge (incidence_at c.args.setup.now c.args.q) c.args.parts.now.tree c.edges-edges.result.now c.loop-edge.edge-index c.edges-edges.ensures.value (omega (arith, past)))
    c.loop-edge.invariant
