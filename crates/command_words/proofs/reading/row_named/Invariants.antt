use Rattle.std.proofs.Common.{◌≡◌, drop, map}
use Rattle.command_words.specs.Rows.{usage_named}
use Rattle.command_words.specs.Usages.{usage_of}
use Rattle.command_words.proofs.reading.row_named.Given as goal

abbrev pub invariant-loop-row : goal.invariant-loop-row
invariant-loop-row l =
    usage_named (map usage_of (drop l.row-index l.rows)) l.name ≡ usage_named (map usage_of l.rows) l.name
