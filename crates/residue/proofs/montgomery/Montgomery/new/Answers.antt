use Rattle.std.proofs.Common.{sym, ◌^◌}
use Rattle.std.proofs.lemmas.Nat.{mul-mod}
use Rattle.residue.proofs.montgomery.Montgomery.new.Goals as goal

pub invariant_of-result-clause-square_is : goal.invariant_of-result-clause-square_is
invariant_of-result-clause-square_is c = sym (mul-mod (2 ^ 64) (2 ^ 64) c.args.m)
