use Rattle.std.proofs.Common.{◌≡◌, map, drop}
use Rattle.toml.specs.View.{items_view}
use Rattle.problem_toml.specs.Writing.{table_items, term_table}
use Rattle.problem_toml.proofs.Inserts.{and_tables}
use Rattle.problem_toml.proofs.writing.term_tables.Given as goal

abbrev pub invariant-loop-term : goal.invariant-loop-term
invariant-loop-term l =
    and_tables (items_view l.values.items) (map term_table (drop l.term-index l.terms)) ≡ table_items
    (map term_table l.terms)
