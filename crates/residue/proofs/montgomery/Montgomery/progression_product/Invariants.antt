use Rattle.std.proofs.Common.{◌<◌, ◌-◌, ℤ}
use Rattle.arithmetic.specs.Numbers.{Leaves, product_below, progression}
use Rattle.residue.specs.Montgomery.{over_word}
use Rattle.residue.proofs.montgomery.Montgomery.progression_product.Given as goal

abbrev pub invariant-loop-place : goal.invariant-loop-place
invariant-loop-place l = record {
  term_below : l.term < l.self.modulus;
  product_below_modulus : l.product < l.self.modulus;
  so_far : (z d : ℤ) → Leaves l.self.modulus z l.first → Leaves l.self.modulus d l.step
      → Leaves l.self.modulus (progression z d (l._place - 1)) (over_word l.self.modulus l.self.negated_inverse l.term)
      × Leaves l.self.modulus (product_below l._place (progression z d)) l.product;
}
