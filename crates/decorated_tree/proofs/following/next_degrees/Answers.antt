-- The loop goes from the end and keeps that all degrees from its index on are 1. At the first degree above 1 the list
-- goes up, with the rank one greater; if only the first degree is above 1, the list goes back to the first one.
use Rattle.std.proofs.Common.{◌-◌, arith}
use Rattle.decorated_tree.proofs.NextDegrees.{ones_start, ones_more, goes_up, goes_back, degree_small}
use Rattle.decorated_tree.proofs.following.next_degrees.Goals as goal

pub loop-place-init : goal.loop-place-init
loop-place-init c = ones_start c.args.degrees.now c.requires.some

pub overflow_add-degrees : goal.overflow_add-degrees
overflow_add-degrees c =
    let small =
    degree_small c.loop-place.place (c.loop-place.place - 1 - 1) c.args.degrees.now c.loop-place.degrees
    (omega arith) c.requires.small c.loop-place.invariant in
    omega arith

pub returns-then-degree-gt1 : goal.returns-then-degree-gt1
returns-then-degree-gt1 c =
    goes_up c.loop-place.place (c.loop-place.place - 1) c.args.degrees.now c.loop-place.degrees c.requires.positive
    (omega arith) (omega arith) (omega arith) c.if-degree-gt1.true c.loop-place.invariant

pub loop-place-preserved : goal.loop-place-preserved
loop-place-preserved c =
    ones_more c.loop-place.place (c.loop-place.place - 1) c.args.degrees.now c.loop-place.degrees c.requires.positive
    (omega arith) (omega arith) (omega arith) c.if-degree-gt1.false c.loop-place.invariant

pub returns : goal.returns
returns c =
    goes_back c.loop-place.place c.args.degrees.now c.loop-place.degrees c.requires.positive
    (omega arith) c.requires.some c.loop-place.invariant
