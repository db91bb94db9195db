use Rattle.std.proofs.Common.{drop}
use Rattle.prufer.proofs.Decoding.{IsDecoding}
use Rattle.prufer.proofs.code.decode.Given as goal

abbrev pub invariant-loop-letter : goal.invariant-loop-letter
invariant-loop-letter l = IsDecoding l.n l.word (drop l.letter-index l.letters) l.degrees l.edges
