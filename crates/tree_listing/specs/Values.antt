-- What a number of an entry says.
use Rattle.std.specs.Prelude.{ℕ, ◌==◌, if◌then◌else◌, Option, Some, None}
use Rattle.list_job.specs.Entries.{no_residue}

-- a residue, or that there is none
abbrev pub said : ℕ → Option ℕ
said value = if value == no_residue then None else Some value
