use Rattle.std.proofs.Common.{◌≡◌, drop, All, length}
use Rattle.residue.specs.Limits.{IsModulus}
use Rattle.problem_toml.specs.Moduli.{moduli_from}
use Rattle.problem_toml.proofs.Arrays.{with_front}
use Rattle.problem_toml.proofs.moduli.each_modulus.Given as goal

abbrev pub invariant-loop-number : goal.invariant-loop-number
invariant-loop-number l = record {
  read : with_front l.moduli.items (moduli_from (length l.moduli.items) (drop l.number-index l.numbers)) ≡ moduli_from 0 l.numbers;
  limits : All IsModulus l.moduli.items;
  count : length l.moduli.items ≡ l.number-index;
}
