use Rattle.std.proofs.Common.{◌≡◌, ◌+◌, drop}
use Rattle.problem_toml.specs.Header.{header_shape}
use Rattle.problem_toml.specs.Reading.{degrees_fit}
use Rattle.problem_toml.proofs.degrees.check_degrees.Given as goal

abbrev pub invariant-loop-place : goal.invariant-loop-place
invariant-loop-place l =
    degrees_fit (header_shape l.header) (l.first + l.place) (drop l.place l.terms) ≡ degrees_fit
    (header_shape l.header) l.first l.terms
