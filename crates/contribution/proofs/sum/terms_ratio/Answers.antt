-- The loop keeps the ratio of the sum over the terms so far; a term adds the product of its vertices' ratio and its
-- value's.
use Rattle.std.proofs.Common.{sym, subst}
use Rattle.contribution.specs.Terms.{IsTermFor}
use Rattle.contribution.proofs.TermSums.{terms-more}
use Rattle.contribution.proofs.sum.terms_ratio.Goals as goal

pub vertices_ratio-vertices-requires-clause-exponents : goal.vertices_ratio-vertices-requires-clause-exponents
vertices_ratio-vertices-requires-clause-exponents c =
    (subst (IsTermFor c.args.parts.now.shape.marks) (sym c.term-item.is) (c.requires.terms c.loop-term.term-index c.term-item.result c.loop-term-test.true)).exponents

pub term_ratio-requires-clause-classes : goal.term_ratio-requires-clause-classes
term_ratio-requires-clause-classes c =
    (subst (IsTermFor c.args.parts.now.shape.marks) (sym c.term-item.is) (c.requires.terms c.loop-term.term-index c.term-item.result c.loop-term-test.true)).classes

pub plus-sum-requires-clause-other_top_below : goal.plus-sum-requires-clause-other_top_below
plus-sum-requires-clause-other_top_below c =
    (c.times-factor.ensures _ _ c.vertices_ratio-vertices.ensures c.term_ratio.ensures).top.below

pub plus-sum-requires-clause-other_bottom_below : goal.plus-sum-requires-clause-other_bottom_below
plus-sum-requires-clause-other_bottom_below c =
    (c.times-factor.ensures _ _ c.vertices_ratio-vertices.ensures c.term_ratio.ensures).bottom.below

pub loop-term-preserved : goal.loop-term-preserved
loop-term-preserved c =
    rw (terms-more c.args.setup.now c.args.parts.now.tree c.args.terms.now c.loop-term.term-index c.term-item.result c.loop-term-test.true c.term-item.is)
    (c.plus-sum.ensures _ _ c.loop-term.invariant (c.times-factor.ensures _ _ c.vertices_ratio-vertices.ensures c.term_ratio.ensures))
