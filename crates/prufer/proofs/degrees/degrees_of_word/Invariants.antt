use Rattle.std.proofs.Common.{◌≡◌, ℕ, ◌+◌, ◌<◌, nat_lt, if◌then◌else◌, drop, length, slice_index}
use Rattle.lists.specs.Members.{count_in}
use Rattle.prufer.proofs.degrees.degrees_of_word.Given as goal

abbrev pub invariant-loop-letter : goal.invariant-loop-letter
invariant-loop-letter l = record {
  long : length l.degrees ≡ 11;
  counts : (v : ℕ) → v < 11 → slice_index l.degrees v + count_in v (drop l.letter-index l.letters) ≡ (if nat_lt v l.n then 1 else 0) + count_in v l.letters;
}
