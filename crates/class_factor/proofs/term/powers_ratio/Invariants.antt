use Rattle.std.proofs.Common.{take}
use Rattle.residue.specs.Ratios.{IsRatioOf}
use Rattle.class_factor.specs.Powers.{value_of_powers}
use Rattle.class_factor.proofs.term.powers_ratio.Given as goal

abbrev pub invariant-loop-power : goal.invariant-loop-power
invariant-loop-power l =
    IsRatioOf l.modulus (value_of_powers l.setup l.parts.tree (take l.power-index l.powers)) l.product
