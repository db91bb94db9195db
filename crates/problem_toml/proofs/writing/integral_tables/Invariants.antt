use Rattle.std.proofs.Common.{◌≡◌, map, drop}
use Rattle.toml.specs.View.{items_view}
use Rattle.problem_toml.specs.Writing.{table_items, integral_table}
use Rattle.problem_toml.proofs.Inserts.{and_tables}
use Rattle.problem_toml.proofs.writing.integral_tables.Given as goal

abbrev pub invariant-loop-terms : goal.invariant-loop-terms
invariant-loop-terms l =
    and_tables (items_view l.values.items) (map integral_table (drop l.terms-index l.integrals)) ≡ table_items
    (map integral_table l.integrals)
