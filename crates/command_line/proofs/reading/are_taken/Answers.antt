use Rattle.std.proofs.Common.{ap, subst, ◌∙◌, ◌↔◌, IsTrue, map, string_bytes}
use Rattle.command_words.specs.Taken.{AreTaken}
use Rattle.command_words.specs.Usages.{is_sound_table}
use Rattle.command_line.proofs.Sound.{sound}
use Rattle.command_line.proofs.reading.are_taken.Goals as goal

pub are_taken-requires : goal.are_taken-requires
are_taken-requires c = record { sound = ap is_sound_table c.program.ensures ∙ sound c.args.commands }

pub returns : goal.returns
returns c =
    subst (λ t. IsTrue c.are_taken.result ↔ AreTaken t (map string_bytes c.args.words.now)) c.program.ensures c.are_taken.ensures
