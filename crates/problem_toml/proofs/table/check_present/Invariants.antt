use Rattle.std.proofs.Common.{◌≡◌, drop}
use Rattle.toml.specs.View.{table_view}
use Rattle.problem_toml.specs.Tables.{all_present}
use Rattle.problem_toml.proofs.table.check_present.Given as goal

abbrev pub invariant-loop-name : goal.invariant-loop-name
invariant-loop-name l =
    all_present l.place (drop l.name-index l.names) (table_view l.table) ≡ all_present l.place l.names
    (table_view l.table)
