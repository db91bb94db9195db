use Rattle.std.proofs.Common.{◌≡◌, take, length, flat_map}
use Rattle.table_sum.specs.Classes.{classes_of_terms}
use Rattle.table_sum.proofs.sum.TableSum.tree_residue.Given as goal

abbrev pub invariant-loop-earlier : goal.invariant-loop-earlier
invariant-loop-earlier l = l.first ≡ length (flat_map classes_of_terms (take l.earlier l.self.problem.now.integrals))
