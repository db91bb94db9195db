use Rattle.std.proofs.Common.{◌≡◌, ◌*◌, ◌%◌, ◌<◌}
use Rattle.arithmetic.specs.Numbers.{gcd}
use Rattle.residue.proofs.modulus.Modulus.inverse.Given as goal

abbrev pub invariant-loop-smaller : goal.invariant-loop-smaller
invariant-loop-smaller l = record {
  modulus : l.m ≡ l.self;
  larger_below : l.of_larger < l.m;
  smaller_below : l.of_smaller < l.m;
  same_gcd : gcd l.larger l.smaller ≡ gcd l.m l.x;
  of_larger_is : (l.of_larger * l.x) % l.m ≡ l.larger % l.m;
  of_smaller_is : (l.of_smaller * l.x) % l.m ≡ l.smaller % l.m;
}

abbrev pub decreases-loop-smaller : goal.decreases-loop-smaller
decreases-loop-smaller l = l.smaller
