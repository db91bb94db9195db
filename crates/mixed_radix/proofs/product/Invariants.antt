use Rattle.std.proofs.Common.{◌≡◌, ◌<◌, ◌≤◌, ◌*◌, drop}
use Rattle.lists.specs.Digits.{product_of}
use Rattle.mixed_radix.proofs.product.Given as goal

abbrev pub invariant-loop-base : goal.invariant-loop-base
invariant-loop-base l = record {
  whole : product_of l.bases ≡ l.size * product_of (drop l.base-index l.bases);
  positive : 0 < l.size;
  limited : l.size ≤ 1099511627776;
}
