-- The tables of the program are sound.
use Rattle.std.proofs.Common.{◌≡◌, true, refl}
use Rattle.std.specs.Fmt.{digits}
use Rattle.command_words.specs.Usages.{is_sound_table}
use Rattle.command_line.specs.declared.table.Commands.{Commands}
use Rattle.command_line.specs.declared.table.Commands.TheVariants as commands
use Rattle.command_line.specs.Table.{table_of_commands}

pub sound : (c : Commands) → is_sound_table (table_of_commands c) ≡ true
unfolding digits
sound commands.Built = refl
sound commands.All = refl
