use Rattle.std.proofs.Common.{◌≡◌, length, map, string_bytes}
use Rattle.command_words.specs.Usages.{slot_of, usage_of}
use Rattle.command_words.specs.Told.{used_from}
use Rattle.command_words.proofs.taken.is_used.Given as goal

abbrev pub invariant-loop-rest : goal.invariant-loop-rest
invariant-loop-rest l =
    used_from (usage_of l.row).options (map string_bytes l.rest) (map slot_of l.plains) l.least
    ≡ used_from (usage_of l.row).options (map string_bytes l.words) (usage_of l.row).plains (usage_of l.row).least

abbrev pub decreases-loop-rest : goal.decreases-loop-rest
decreases-loop-rest l = length l.rest
