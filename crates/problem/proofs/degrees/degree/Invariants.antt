use Rattle.std.proofs.Common.{◌≡◌, ◌≤◌, ◌+◌, ◌*◌, drop}
use Rattle.problem.specs.Rules.{powers_degree}
use Rattle.problem.proofs.degrees.degree.Given as goal

abbrev pub invariant-loop-power : goal.invariant-loop-power
invariant-loop-power l = record {
  sum : l.degree + powers_degree l.d (drop l.power-index l.powers) ≡ powers_degree l.d l.powers;
  most : l.degree ≤ 163455 * l.power-index;
}
