use Rattle.std.proofs.Common.{◌≡◌, ◌+◌, take, length}
use Rattle.arithmetic.specs.Fractions.{IsResidue}
use Rattle.contribution.specs.Terms.{sum_of_terms}
use Rattle.factor_table.specs.Seats.{parameters_of}
use Rattle.table_sum.specs.Words.{IsLater}
use Rattle.table_sum.specs.Classes.{classes_of_terms}
use Rattle.table_sum.proofs.terms.terms_residue.Given as goal

abbrev pub invariant-loop-term : goal.invariant-loop-term
invariant-loop-term l = record {
  seat : IsLater l.column.table.now l.fn.seat l.seat;
  index : l.index ≡ l.first + length (classes_of_terms (take l.term-index l.terms));
  value : IsResidue l.column.modulus.now (sum_of_terms (parameters_of l.column.table.now).setup l.parts.tree (take l.term-index l.terms)) l.sum;
}
