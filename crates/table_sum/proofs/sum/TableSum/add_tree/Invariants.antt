use Rattle.std.proofs.Common.{◌≡◌, ◌<◌, ◌≤◌, ◌+◌, ◌*◌, ℕ, length, take, flat_map, slice_index}
use Rattle.decorated_tree.specs.Trees.{tree_view}
use Rattle.localisation.specs.Contribution.{contribution}
use Rattle.localisation.specs.Agreement.{modulus_at, integral_at}
use Rattle.problem.specs.Problems.{view}
use Rattle.range_sum.specs.Totals.{AddsResidue}
use Rattle.table_sum.specs.Words.{IsLater}
use Rattle.table_sum.specs.Classes.{classes_of_terms}
use Rattle.table_sum.specs.Sums.{KnowsTree}
use Rattle.table_sum.proofs.sum.TableSum.add_tree.Given as goal

abbrev pub invariant-loop-integral : goal.invariant-loop-integral
invariant-loop-integral l = record {
  place : l.place ≡ l.integral * length l.self.problem.now.moduli;
  first : l.first ≡ length (flat_map classes_of_terms (take l.integral l.self.problem.now.integrals));
  size : length l.sums ≡ 64;
  seat : IsLater l.self.table.now l.fn.seat l.seat;
  edges : KnowsTree (view l.self.problem.now) l.self.table.now l.seat (tree_view l.tree);
  added : (q : ℕ) → q < l.place → AddsResidue (modulus_at l.self.problem.now.moduli q)
      (contribution l.self.problem.now.setup (integral_at l.self.problem.now.moduli l.self.problem.now.integrals q) (tree_view l.tree))
      (slice_index l.fn.sums q) (slice_index l.sums q);
  rest : (q : ℕ) → l.place ≤ q → slice_index l.sums q ≡ slice_index l.fn.sums q;
}

abbrev pub invariant-loop-modulus : goal.invariant-loop-modulus
invariant-loop-modulus l = record {
  place : l.place ≡ l.integral * length l.self.problem.now.moduli + l.modulus;
  size : length l.sums ≡ 64;
  seat : IsLater l.self.table.now l.fn.seat l.seat;
  edges : KnowsTree (view l.self.problem.now) l.self.table.now l.seat (tree_view l.tree);
  added : (q : ℕ) → q < l.place → AddsResidue (modulus_at l.self.problem.now.moduli q)
      (contribution l.self.problem.now.setup (integral_at l.self.problem.now.moduli l.self.problem.now.integrals q) (tree_view l.tree))
      (slice_index l.fn.sums q) (slice_index l.sums q);
  rest : (q : ℕ) → l.place ≤ q → slice_index l.sums q ≡ slice_index l.fn.sums q;
}
