use Rattle.std.proofs.Common.{ap, map}
use Rattle.std.specs.Fmt.{digits}
use Rattle.command_words.specs.Usages.{usage_of}
use Rattle.command_line.proofs.table.built_rows.Goals as goal

pub returns : goal.returns
unfolding digits
returns c = ap (map usage_of) c.as_slice.ensures
