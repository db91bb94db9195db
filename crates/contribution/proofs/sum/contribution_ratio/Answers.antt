use Rattle.std.proofs.Common.{pos, subst}
use Rattle.arithmetic.specs.Numbers.{Leaves, factorial}
use Rattle.localisation.specs.Contribution.{contribution}
use Rattle.contribution.proofs.sum.contribution_ratio.Goals as goal

pub times-requires-2-clause-other_top_below : goal.times-requires-2-clause-other_top_below
times-requires-2-clause-other_top_below c =
    (c.times.ensures _ _ c.edges_ratio-at_edges.ensures c.terms_ratio-at_terms.ensures).top.below

pub times-requires-2-clause-other_bottom_below : goal.times-requires-2-clause-other_bottom_below
times-requires-2-clause-other_bottom_below c =
    (c.times.ensures _ _ c.edges_ratio-at_edges.ensures c.terms_ratio-at_terms.ensures).bottom.below

pub returns : goal.returns
unfolding contribution
returns c =
    let m = c.args.modulus.now in
    let numberings : Leaves m (pos (factorial c.args.parts.now.tree.vertices)) c.factorial.result =
    subst (λ n. Leaves m (pos (factorial n)) c.factorial.result) c.vertices.ensures.value c.factorial.ensures in
    c.times-2.ensures _ _ (record { top = c.of_u64.ensures; bottom = numberings })
    (c.times.ensures _ _ c.edges_ratio-at_edges.ensures c.terms_ratio-at_terms.ensures)
