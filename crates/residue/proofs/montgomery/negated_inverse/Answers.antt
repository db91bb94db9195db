use Rattle.std.proofs.Common.{refl}
use Rattle.residue.proofs.Inverses.{newton_step}
use Rattle.residue.proofs.montgomery.negated_inverse.Goals as goal

pub loop-step-preserved : goal.loop-step-preserved
loop-step-preserved c = newton_step c.loop-step._step c.args.m c.loop-step.inverse _ _ c.loop-step-test.true refl refl c.loop-step.invariant
