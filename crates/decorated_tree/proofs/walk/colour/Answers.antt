use Rattle.std.proofs.Common.{arith}
use Rattle.decorated_tree.proofs.Walking.{within_at}
use Rattle.decorated_tree.proofs.walk.colour.Goals as goal

pub bounds-digits-step : goal.bounds-digits-step
bounds-digits-step c = (within_at _ _ _ c.requires.within c.loop-step-test.true).0

pub bounds-colours-step : goal.bounds-colours-step
bounds-colours-step c =
    let w = (within_at _ _ _ c.requires.within c.loop-step-test.true).1 in
    let same = c.requires.same in let kept = c.loop-step.auto.colours in omega arith

pub bounds-colours-step-in-loop-step : goal.bounds-colours-step-in-loop-step
bounds-colours-step-in-loop-step c =
    let w = (within_at _ _ _ c.requires.within c.loop-step-test.true).0 in
    let same = c.requires.same in let kept = c.loop-step.auto.colours in omega arith
