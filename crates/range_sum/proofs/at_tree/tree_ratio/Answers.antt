use Rattle.std.proofs.Common.{length, get_or, [], All, ◌<◌, sym, subst, arith, ◌∙◌}
use Rattle.std.proofs.lemmas.Option.{get_or_from_slice_get}
use Rattle.trees.specs.Decorated.{TreeShape}
use Rattle.residue.specs.Ratios.{IsRatioOf}
use Rattle.localisation.specs.Contribution.{contribution}
use Rattle.contribution.specs.Terms.{IsTermFor}
use Rattle.range_sum.proofs.ProblemTrees.{terms_for}
use Rattle.range_sum.proofs.at_tree.tree_ratio.Goals as goal

pub contribution_ratio-requires-clause-rank : goal.contribution_ratio-requires-clause-rank
contribution_ratio-requires-clause-rank c =
    let p = c.args.problem.now in
    subst (λ (s : TreeShape). s.rank < length p.setup) (sym c.requires.shape)
    (let one = p.rules.one_weight_each in omega (arith, one))

pub contribution_ratio-requires-clause-terms : goal.contribution_ratio-requires-clause-terms
contribution_ratio-requires-clause-terms c =
    let p = c.args.problem.now in
    subst (λ (s : TreeShape). All (IsTermFor s.marks) c.as_slice.result.now) (sym c.requires.shape)
    (subst (All (IsTermFor p.shape.marks)) (sym c.as_slice.ensures)
    (terms_for p.shape p.integrals c.args.integral c.get-terms.result.now p.rules.shape p.rules.integrals c.get-terms.ensures))

pub returns : goal.returns
returns c =
    let p = c.args.problem.now in
    let g = c.args.parts.now.tree in
    let at_modulus = get_or_from_slice_get p.moduli c.args.modulus c.get-modulus.result.now 0 c.get-modulus.ensures in
    let at_integral = get_or_from_slice_get p.integrals c.args.integral c.get-terms.result.now [] c.get-terms.ensures in
    subst
    (λ m. IsRatioOf m (contribution p.setup (get_or p.integrals c.args.integral []) g) c.contribution_ratio.result)
    (sym at_modulus)
    (subst (λ ts. IsRatioOf c.get-modulus.result.now (contribution p.setup ts g) c.contribution_ratio.result) (c.as_slice.ensures ∙ sym at_integral)
    c.contribution_ratio.ensures)
