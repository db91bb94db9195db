use Rattle.std.proofs.Common.{◌≡◌, drop}
use Rattle.toml.specs.View.{items_view}
use Rattle.problem_toml.specs.Tables.{integers_in}
use Rattle.problem_toml.proofs.Arrays.{with_front}
use Rattle.problem_toml.proofs.table.integers_among.Given as goal

abbrev pub invariant-loop-value : goal.invariant-loop-value
invariant-loop-value l =
    with_front l.numbers.items
    (integers_in l.place l.name (items_view (drop l.value-index l.values))) ≡ integers_in l.place l.name
    (items_view l.values)
