use Rattle.std.proofs.Common.{◌≡◌, ◌-◌, drop}
use Rattle.trees.specs.Edges.{is_increasing}
use Rattle.prufer.proofs.pairs.is_increasing.Given as goal

abbrev pub invariant-loop-place : goal.invariant-loop-place
invariant-loop-place l = is_increasing (drop (l.place - 1) l.edges) ≡ is_increasing l.edges
