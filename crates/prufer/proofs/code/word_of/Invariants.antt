use Rattle.std.proofs.Common.{◌-◌}
use Rattle.prufer.proofs.Encoding.{IsEncoding}
use Rattle.prufer.proofs.code.word_of.Given as goal

abbrev pub invariant-loop : goal.invariant-loop
invariant-loop l = IsEncoding l.n l.fn.edges (l.n - l.counter) l.word l.left l.degrees
