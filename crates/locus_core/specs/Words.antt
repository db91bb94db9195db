-- The words of the command line.
use Rattle.std.specs.Prelude.{ℕ, List}
use Rattle.command_line.specs.declared.table.Commands.TheVariants.{Built}
use Rattle.command_line.specs.Asked.{Asks}
use Rattle.command_line.specs.Requests.{Request}

-- the words ask for this, by the commands of the program: `run`, `resume`, `make`, `soak`, `trees`, `rank` and `unrank`
abbrev pub AsksFor : List (List ℕ) → Request → Type 0
AsksFor words request = Asks Built words request

-- they ask for nothing
abbrev pub AskNothing : List (List ℕ) → Type 0
AskNothing words = (request : Request) → ¬ AsksFor words request
