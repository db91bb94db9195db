use Rattle.std.proofs.Common.{◌≡◌, ◌≤◌, drop, All, length}
use Rattle.toml.specs.View.{items_view}
use Rattle.problem.specs.Rules.{IsPower}
use Rattle.problem_toml.specs.Classes.{powers_from}
use Rattle.problem_toml.specs.Tables.{tables_among}
use Rattle.problem_toml.proofs.Arrays.{with_front}
use Rattle.problem_toml.proofs.powers.powers.Given as goal

abbrev pub invariant-loop-value : goal.invariant-loop-value
invariant-loop-value l = record {
  read : with_front l.powers.items (powers_from l.version l.marks l.term (length l.powers.items) (tables_among (items_view (drop l.value-index l.values))))
      ≡ powers_from l.version l.marks l.term 0 (tables_among (items_view l.values));
  limits : All (IsPower l.marks) l.powers.items;
  count : length l.powers.items ≤ l.value-index;
}
