use Rattle.std.proofs.Common.{rules, refl}
use Rattle.locus_core.specs.Steps.{whole, broken}
use Rattle.locus_core.proofs.printing.print.Goals as goal

pub returns-in-Ok-clause-prints : goal.returns-in-Ok-clause-prints
returns-in-Ok-clause-prints g c = whole c.code.ensures (search rules) refl

pub returns-clause-prints : goal.returns-clause-prints
returns-clause-prints g c = broken (search rules) (search rules) c.tell.ensures
