use Rattle.std.proofs.Common.{◌≡◌, ◌≤◌, take, map, sum}
use Rattle.arithmetic.specs.Numbers.{factorial}
use Rattle.lists.specs.Digits.{product_of}
use Rattle.vertex_factor.proofs.psi.product_of_factorials.Given as goal

abbrev pub invariant-loop-exponent : goal.invariant-loop-exponent
invariant-loop-exponent l = record {
  value : l.product ≡ product_of (map factorial (take l.exponent-index l.exponents));
  positive : 1 ≤ l.product;
  bounded : l.product ≤ factorial (sum (take l.exponent-index l.exponents));
}
