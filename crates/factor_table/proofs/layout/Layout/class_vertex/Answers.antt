use Rattle.std.proofs.Common.{arith}
use Rattle.factor_table.proofs.Strides.{limited}
use Rattle.factor_table.proofs.layout.Layout.class_vertex.Goals as goal

pub at-requires-clause-first : goal.at-requires-clause-first
at-requires-clause-first c =
    let l = c.args.self.now in let m = limited l.sizes l.limits in let first = l.laid.first_class_vertex in
    let few = l.limits.colours_limited in let moduli = l.limits.moduli_limited in omega arith
