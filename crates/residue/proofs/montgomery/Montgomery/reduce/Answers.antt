use Rattle.std.proofs.Common.{refl, arith}
use Rattle.residue.proofs.MontgomeryLaws.{reduced, reduced_once_less}
use Rattle.residue.proofs.montgomery.Montgomery.reduce.Goals as goal

pub returns-then-shifted-self-clause-value : goal.returns-then-shifted-self-clause-value
returns-then-shifted-self-clause-value c =
    reduced _ c.args.self.now.negated_inverse c.args.t _ _ c.args.self.now.inverse refl refl c.if-shifted-self.true

pub returns-else-shifted-self-clause-value : goal.returns-else-shifted-self-clause-value
returns-else-shifted-self-clause-value c =
    reduced_once_less _ c.args.self.now.negated_inverse c.args.t _ _ c.args.self.now.inverse refl refl c.if-shifted-self.false
    (grind arith)
