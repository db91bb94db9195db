use Rattle.std.proofs.Common.{arith}
use Rattle.residue.proofs.Weights.{are_weights, kept_weights}
use Rattle.residue.proofs.setup.Setup.new.Goals as goal

pub invariant_of-result : goal.invariant_of-result
invariant_of-result c = (
  kept_weights c.args.weights.now _ _ c.copy_from_slice.ensures.after
      (are_weights c.args.weights.now _ c.if-weights-lt2.false c.if-weights-gt13.false c.first_beyond_limit.ensures c.in_default.is),
  omega arith,
)

pub returns-clause-within : goal.returns-clause-within
returns-clause-within c =
    are_weights c.args.weights.now _ c.if-weights-lt2.false c.if-weights-gt13.false c.first_beyond_limit.ensures c.in_default.is
