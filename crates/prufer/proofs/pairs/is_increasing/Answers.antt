use Rattle.std.proofs.Common.{◌∙◌, sym, arith, drop, ◌-◌}
use Rattle.std.proofs.lemmas.List.{length-drop}
use Rattle.prufer.proofs.Increasing.{increasing-drop, increasing_short}
use Rattle.prufer.proofs.pairs.is_increasing.Goals as goal

pub loop-place-preserved : goal.loop-place-preserved
loop-place-preserved c =
    increasing-drop c.args.edges.now c.loop-place.place c.loop-place.auto.place c.loop-place-test.true (sym c.if-not-comes_before.ensures) ∙ c.loop-place.invariant

pub returns : goal.returns
returns c =
    sym (increasing_short (drop (c.loop-place.place - 1) c.args.edges.now) (omega (arith, length-drop (c.loop-place.place - 1) c.args.edges.now))) ∙ c.loop-place.invariant
