use Rattle.std.proofs.Common.{sym, ap, ◌∙◌}
use Rattle.command_words.proofs.Told.{told_of_none, told_of_row}
use Rattle.command_words.specs.Rows.{usage_named}
use Rattle.command_words.specs.Usages.{usages_of, usage_of}
use Rattle.command_words.proofs.taken.are_taken.Goals as goal

pub returns-in-Some : goal.returns-in-Some
returns-in-Some c =
    told_of_row (usages_of c.args.program) c.args.words.now c.command-item.result (usage_of c.in-Some.row.now) c.is_used.result c.requires.sound
    c.in-len2-up.len_at_least c.command-item.is (ap (usage_named (usages_of c.args.program)) (sym c.as_str.ensures.value) ∙ sym c.in-Some.ensures) c.is_used.ensures

pub returns-in-None : goal.returns-in-None
returns-in-None c =
    told_of_none (usages_of c.args.program) c.args.words.now c.command-item.result c.requires.sound c.in-len2-up.len_at_least
    c.command-item.is (ap (usage_named (usages_of c.args.program)) (sym c.as_str.ensures.value) ∙ sym c.in-None.ensures)
