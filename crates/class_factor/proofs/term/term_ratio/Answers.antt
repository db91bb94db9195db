use Rattle.std.proofs.Common.{◌≡◌, pos, subst, arith, w64, to_z, of_z}
use Rattle.std.proofs.lemmas.Int.{ints}
use Rattle.arithmetic.specs.Numbers.{Leaves}
use Rattle.arithmetic.specs.Fractions.{fraction, times}
use Rattle.residue.specs.Ratios.{IsRatioOf}
use Rattle.class_factor.specs.Powers.{value_of_powers}
use Rattle.class_factor.proofs.term.term_ratio.Goals as goal

pub returns : goal.returns
returns c =
    let m = c.args.modulus.now in
    let number = c.args.term.now.coefficient in
    let as_read : to_z w64 (of_z w64 number) ≡ number = omega (arith, ints) in
    let coefficient = subst (λ z. Leaves m z c.of_i64.result) as_read c.of_i64.ensures in
    subst
    (λ ps. IsRatioOf m (times (fraction number (pos 1)) (value_of_powers c.args.setup.now c.args.parts.now.tree ps)) c.times.result)
    c.as_slice.ensures (c.times.ensures _ _ (c.whole-coefficient.ensures _ coefficient) c.powers_ratio-classes.ensures)
