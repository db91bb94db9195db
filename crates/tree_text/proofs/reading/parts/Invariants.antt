use Rattle.std.proofs.Common.{◌≡◌, take, Some}
use Rattle.tree_text.specs.Steps.{first_reader}
use Rattle.tree_text.proofs.Runs.{run}
use Rattle.tree_text.proofs.reading.parts.Given as goal

-- the bytes so far have been read
abbrev pub invariant-loop-place : goal.invariant-loop-place
invariant-loop-place l = run first_reader (take l.place l.text) ≡ Some l.reader
