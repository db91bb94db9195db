use Rattle.std.proofs.Common.{◌≡◌, take}
use Rattle.decorated_tree.proofs.unrank.copy_bytes.Given as goal

abbrev pub invariant-loop-place : goal.invariant-loop-place
invariant-loop-place l = take l.place l.bytes ≡ take l.place l.numbers
