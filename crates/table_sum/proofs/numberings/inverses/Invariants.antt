use Rattle.std.proofs.Common.{◌≡◌, ℕ, ◌<◌, length}
use Rattle.residue.specs.Answers.{GivesResidue}
use Rattle.table_sum.specs.Numberings.{one_numbering, answer_at}
use Rattle.table_sum.proofs.numberings.inverses.Given as goal

abbrev pub invariant-loop-n : goal.invariant-loop-n
invariant-loop-n l = record {
  size : length l.row ≡ 12;
  each : (k : ℕ) → k < l.n → GivesResidue l.modulus (one_numbering k) (answer_at l.row k);
}
