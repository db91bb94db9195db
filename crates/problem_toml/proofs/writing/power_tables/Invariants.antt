use Rattle.std.proofs.Common.{◌≡◌, map, drop}
use Rattle.toml.specs.View.{items_view}
use Rattle.problem_toml.specs.Writing.{table_items, power_table}
use Rattle.problem_toml.proofs.Inserts.{and_tables}
use Rattle.problem_toml.proofs.writing.power_tables.Given as goal

abbrev pub invariant-loop-power : goal.invariant-loop-power
invariant-loop-power l =
    and_tables (items_view l.values.items) (map power_table (drop l.power-index l.powers)) ≡ table_items
    (map power_table l.powers)
