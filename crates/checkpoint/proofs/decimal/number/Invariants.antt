use Rattle.std.proofs.Common.{◌≡◌, drop}
use Rattle.checkpoint.specs.Readers.{number_from}
use Rattle.checkpoint.proofs.decimal.number.Given as goal

abbrev pub invariant-loop-index : goal.invariant-loop-index
invariant-loop-index l = number_from l.number (drop l.index l.text) ≡ number_from 0 l.text
