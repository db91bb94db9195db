-- The loops keep that the walk is what the definition has after so many rounds and edges. The walk ends early once it
-- has all vertices, since later rounds would add nothing.
use Rattle.std.proofs.Common.{◌-◌, ◌+◌, arith, sym, subst, ap, length}
use Rattle.decorated_tree.specs.Steps.{AreWithin}
use Rattle.decorated_tree.proofs.Walking.{walk_of_tree, stepped, not_stepped, walked, walked_all}
use Rattle.decorated_tree.proofs.walk.walk_from_zero.Goals.{in-Some, in_default}
use Rattle.decorated_tree.proofs.walk.walk_from_zero.Goals as goal

pub bounds-there-step : goal.bounds-there-step
bounds-there-step c =
    (stepped c.args.n c.args.edges.now (c.args.n - (c.loop.counter + 1)) c.loop-edge.edge-index c.loop-edge.walk c.loop-edge.there _ c.in-Some.step c.requires.most c.requires.tree c.loop-edge-test.true c.step_along.ensures c.in-Some.is c.loop-edge.invariant).new

pub push-requires : goal.push-requires
push-requires c =
    (stepped c.args.n c.args.edges.now (c.args.n - (c.loop.counter + 1)) c.loop-edge.edge-index c.loop-edge.walk c.loop-edge.there _ c.in-Some.step c.requires.most c.requires.tree c.loop-edge-test.true c.step_along.ensures c.in-Some.is c.loop-edge.invariant).room

pub loop-edge-preserved : goal.loop-edge-preserved
loop-edge-preserved c =
    elim c.match-step_along.branch [
      | in-Some w ↦ rw (w.walk-is, w.there-is, w.push.ensures) ((stepped c.args.n c.args.edges.now (c.args.n - (c.loop.counter + 1)) c.loop-edge.edge-index c.loop-edge.walk c.loop-edge.there _ w.in-Some.step c.requires.most c.requires.tree c.loop-edge-test.true c.step_along.ensures w.in-Some.is c.loop-edge.invariant).next)
      | in_default w ↦ rw (w.walk-is, w.there-is) (not_stepped c.args.n c.args.edges.now (c.args.n - (c.loop.counter + 1)) c.loop-edge.edge-index c.loop-edge.walk c.loop-edge.there _ c.requires.most c.requires.tree c.loop-edge-test.true c.step_along.ensures w.in_default.is c.loop-edge.invariant)
    ]

pub returns-clause-within : goal.returns-clause-within
returns-clause-within c =
    let done =
    walked c.args.n c.args.edges.now (c.args.n - c.loop.counter) c.loop.walk c.loop.there
    (omega arith) c.loop.invariant in
    subst (AreWithin c.args.n) (sym done)
    (walk_of_tree c.args.n c.args.edges.now c.requires.most c.requires.tree).within

pub returns-then-as_slice-n-clause-value : goal.returns-then-as_slice-n-clause-value
returns-then-as_slice-n-clause-value c =
    let long = ap length c.as_slice.ensures in
    let all = c.if-as_slice-n.true in
    walked_all c.args.n c.args.edges.now
    (c.args.n - c.loop.counter) c.loop.walk c.loop.there c.requires.most c.requires.tree (omega arith) c.loop.invariant

pub returns-then-as_slice-n-clause-within : goal.returns-then-as_slice-n-clause-within
returns-then-as_slice-n-clause-within c =
    let long = ap length c.as_slice.ensures in
    let all = c.if-as_slice-n.true in
    let done =
    walked_all c.args.n c.args.edges.now
    (c.args.n - c.loop.counter) c.loop.walk c.loop.there c.requires.most c.requires.tree
    (omega arith) c.loop.invariant in
    subst (AreWithin c.args.n) (sym done)
    (walk_of_tree c.args.n c.args.edges.now c.requires.most c.requires.tree).within
