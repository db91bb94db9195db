use Rattle.std.proofs.Common.{◌≤◌, ◌+◌, vec_len}
use Rattle.locus_io.proofs.host.read_front.Given as goal

abbrev pub invariant-loop : goal.invariant-loop
invariant-loop g l = vec_len l.bytes + l.left ≤ l.most
