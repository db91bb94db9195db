use Rattle.std.proofs.Common.{◌≡◌, ◌++◌, drop, map}
use Rattle.problem_toml.specs.Refusals.{shown_byte}
use Rattle.problem_toml.proofs.refusal.append_shown.Given as goal

abbrev pub invariant-loop-byte : goal.invariant-loop-byte
invariant-loop-byte l =
    l.line.items ++ map shown_byte (drop l.byte-index l.bytes) ≡ l.initial.line.items ++ map shown_byte l.bytes
