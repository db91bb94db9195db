use Rattle.std.proofs.Common.{ap, ◌*◌, ◌%◌, ◌∙◌}
use Rattle.residue.proofs.montgomery.Montgomery.mul.Goals as goal

pub returns : goal.returns
returns c = c.times.ensures.value ∙ ap (λ y. (c.args.x * y) % c.args.self.now.modulus) c.enter.ensures.value
