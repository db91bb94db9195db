use Rattle.std.proofs.Common.{◌≤◌}
use Rattle.problem.specs.Problems.{view}
use Rattle.problem.specs.Sums.{count_of}
use Rattle.checkpoint.specs.States.{AreResidues}
use Rattle.rounds.proofs.tests.chain.Given as goal

abbrev pub invariant-loop-calls : goal.invariant-loop-calls
invariant-loop-calls g l = record {
  next : l.next ≤ count_of (view l.state-inside.problem);
  residues : AreResidues (view l.state-inside.problem) l.residues.items;
}
