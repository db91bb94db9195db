-- The loop subtracts the counts one after the other and keeps that the tree of the number is that of the rest among the
-- trees with at least `n` vertices. It ends before the counts do, since the number is below their sum.
use Rattle.std.proofs.Common.{arith}
use Rattle.decorated_tree.proofs.Counts.{limits}
use Rattle.decorated_tree.proofs.Unranking.{place_start, found, not_found, place_short, never_through}
use Rattle.decorated_tree.proofs.shape.Shape.place.Goals as goal

pub loop-count-init : goal.loop-count-init
loop-count-init c = place_start c.args.self.now c.args.k c.requires

pub returns-then-rest-count-clause-least : goal.returns-then-rest-count-clause-least
returns-then-rest-count-clause-least c =
    (found c.args.self.now c.counts-count-items.result.now c.args.k c.loop-count.count-index c.loop-count.n c.loop-count.rest c.counts-count-items.ensures.value c.loop-count-test.true c.if-rest-count.true c.loop-count.invariant).least

pub returns-then-rest-count-clause-most : goal.returns-then-rest-count-clause-most
returns-then-rest-count-clause-most c =
    (found c.args.self.now c.counts-count-items.result.now c.args.k c.loop-count.count-index c.loop-count.n c.loop-count.rest c.counts-count-items.ensures.value c.loop-count-test.true c.if-rest-count.true c.loop-count.invariant).most

pub returns-then-rest-count-clause-below : goal.returns-then-rest-count-clause-below
returns-then-rest-count-clause-below c =
    (found c.args.self.now c.counts-count-items.result.now c.args.k c.loop-count.count-index c.loop-count.n c.loop-count.rest c.counts-count-items.ensures.value c.loop-count-test.true c.if-rest-count.true c.loop-count.invariant).below

pub returns-then-rest-count-clause-tree : goal.returns-then-rest-count-clause-tree
returns-then-rest-count-clause-tree c =
    (found c.args.self.now c.counts-count-items.result.now c.args.k c.loop-count.count-index c.loop-count.n c.loop-count.rest c.counts-count-items.ensures.value c.loop-count-test.true c.if-rest-count.true c.loop-count.invariant).tree

pub overflow_add-n : goal.overflow_add-n
overflow_add-n c =
    let l =
    limits c.args.self.now.rank c.args.self.now.degree c.args.self.now.marks c.counts-count-items.ensures.shape in
    let most = l.most_degree in
    let short =
    place_short c.args.self.now c.args.k c.loop-count.count-index c.loop-count.n c.loop-count.rest c.loop-count.invariant in
    omega arith

pub loop-count-preserved : goal.loop-count-preserved
loop-count-preserved c =
    not_found c.args.self.now c.counts-count-items.result.now c.args.k c.loop-count.count-index c.loop-count.n c.loop-count.rest c.counts-count-items.ensures.value c.loop-count-test.true c.if-rest-count.false c.loop-count.invariant

pub unreachable-requires : goal.unreachable-requires
unreachable-requires c =
    never_through c.args.self.now c.counts-count-items.result.now c.args.k c.loop-count.count-index c.loop-count.n c.loop-count.rest c.counts-count-items.ensures.value c.loop-count-test.false c.loop-count.invariant
