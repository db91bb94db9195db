use Rattle.std.proofs.Common.{◌≡◌, ◌+◌, drop, length, sum_by}
use Rattle.problem_toml.specs.Header.{header_shape}
use Rattle.problem_toml.specs.Reading.{all_degrees_fit}
use Rattle.problem_toml.proofs.degrees.check_all_degrees.Given as goal

abbrev pub invariant-loop-terms : goal.invariant-loop-terms
invariant-loop-terms l = record {
  read : all_degrees_fit (header_shape l.header) l.first (drop l.terms-index l.integrals) ≡ all_degrees_fit (header_shape l.header) 0 l.integrals;
  count : l.first + sum_by length (drop l.terms-index l.integrals) ≡ sum_by length l.integrals;
}
