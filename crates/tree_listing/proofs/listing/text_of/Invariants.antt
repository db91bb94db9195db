use Rattle.std.specs.List.{flat_map}
use Rattle.std.proofs.Common.{◌≡◌, ◌≤◌, ◌++◌, ◌-◌}
use Rattle.lists.specs.Ranges.{counted_from}
use Rattle.problem.specs.Problems.{view}
use Rattle.tree_listing.specs.Texts.{tree_lines}
use Rattle.tree_listing.proofs.listing.text_of.Given as goal

abbrev pub invariant-loop-number : goal.invariant-loop-number
invariant-loop-number l = record {
  from : l.first ≤ l.number;
  lines : l.text.items ++ flat_map (tree_lines (view l.problem)) (counted_from l.number (l.end - l.number))
      ≡ flat_map (tree_lines (view l.problem)) (counted_from l.first (l.end - l.first));
}
