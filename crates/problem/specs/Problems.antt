-- What a problem is, seen by contracts.
use Rattle.problem.specs.Rules.{ProblemView}
use Rattle.problem.specs.declared.problem.Problem.{Problem}

abbrev pub view : Problem → ProblemView
view p = record {
  shape = p.shape;
  weights = p.setup;
  moduli = p.moduli;
  top_bound = p.top_bound;
  bottom_bound = p.bottom_bound;
  integrals = p.integrals;
}
