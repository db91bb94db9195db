use Rattle.std.proofs.Common.{◌≡◌, ◌*◌, ◌%◌, ◌^◌, ◌<◌}
use Rattle.residue.specs.Montgomery.{over_word}
use Rattle.residue.proofs.montgomery.Montgomery.pow.Given as goal

abbrev pub invariant-loop-left : goal.invariant-loop-left
invariant-loop-left l = record {
  power_below : l.power < l.self.modulus;
  square_below : l.square < l.self.modulus;
  whole : (l.power * over_word l.self.modulus l.self.negated_inverse l.square ^ l.left) % l.self.modulus ≡ (l.x ^ l.exponent) % l.self.modulus;
}

abbrev pub decreases-loop-left : goal.decreases-loop-left
decreases-loop-left l = l.left
