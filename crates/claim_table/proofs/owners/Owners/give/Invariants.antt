use Rattle.std.proofs.Common.{◌≡◌, ℕ, ◌<◌, length, take, get_or}
use Rattle.claim_table.specs.Counts.{occurrences}
use Rattle.claim_table.specs.Claims.{given}
use Rattle.claim_table.proofs.owners.Owners.give.Given as goal

abbrev pub invariant-loop-block : goal.invariant-loop-block
invariant-loop-block l = record {
  len : length l.self ≡ length l.initial.self;
  owners : (b : ℕ) → b < length l.initial.self
      → get_or l.self b 0 ≡ given (occurrences b (take l.block-index l.taken)) l.worker (get_or l.initial.self b 0);
}
