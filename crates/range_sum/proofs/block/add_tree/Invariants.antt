use Rattle.std.proofs.Common.{◌≡◌, ◌<◌, ◌≤◌, ◌+◌, ◌*◌, ℕ, length}
use Rattle.decorated_tree.specs.Trees.{tree_view}
use Rattle.localisation.specs.Contribution.{contribution}
use Rattle.localisation.specs.Agreement.{modulus_at, integral_at}
use Rattle.range_sum.specs.Totals.{ratio_at, AddsFraction}
use Rattle.range_sum.proofs.block.add_tree.Given as goal

abbrev pub invariant-loop-integral : goal.invariant-loop-integral
invariant-loop-integral l = record {
  place : l.place ≡ l.integral * length l.problem.moduli;
  size : length l.ratios ≡ 64;
  added : (q : ℕ) → q < l.place → AddsFraction (modulus_at l.problem.moduli q)
      (contribution l.problem.setup (integral_at l.problem.moduli l.problem.integrals q) (tree_view l.tree))
      (ratio_at l.fn.ratios q) (ratio_at l.ratios q);
  rest : (q : ℕ) → l.place ≤ q → ratio_at l.ratios q ≡ ratio_at l.fn.ratios q;
}

abbrev pub invariant-loop-modulus : goal.invariant-loop-modulus
invariant-loop-modulus l = record {
  place : l.place ≡ l.integral * length l.problem.moduli + l.modulus;
  size : length l.ratios ≡ 64;
  added : (q : ℕ) → q < l.place → AddsFraction (modulus_at l.problem.moduli q)
      (contribution l.problem.setup (integral_at l.problem.moduli l.problem.integrals q) (tree_view l.tree))
      (ratio_at l.fn.ratios q) (ratio_at l.ratios q);
  rest : (q : ℕ) → l.place ≤ q → ratio_at l.ratios q ≡ ratio_at l.fn.ratios q;
}
