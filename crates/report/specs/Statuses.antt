-- The exit status for each way that a run ends.
use Rattle.std.specs.Prelude.{ℕ}
use Rattle.report.specs.declared.status.Status.{Status}
use Rattle.report.specs.declared.status.Status.TheVariants as status

abbrev pub code_of : Status → ℕ
code_of status.Done = 0
code_of status.NoFraction = 1
code_of status.WordsRefused = 2
code_of status.ProblemRefused = 3
code_of status.NoInverse = 4
code_of status.Paused = 5
code_of status.ReadFault = 6
code_of status.WriteFault = 7
code_of status.CheckpointRefused = 8
code_of status.NoMemory = 9
code_of status.RangeRefused = 10
code_of status.TreeRefused = 11
