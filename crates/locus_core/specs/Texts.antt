-- The texts of numbers and trees, and those of refusals.
use Rattle.std.specs.Prelude.{ℕ, List, ◌++◌, codes}
use Rattle.trees.specs.Decorated.{DecoratedTree}
use Rattle.trees.specs.Texts.{tree_text}
use Rattle.tree_text.specs.Refusals as trees
use Rattle.tree_text.specs.declared.error.TreeTextError.{TreeTextError}
use Rattle.report.specs.Texts.{labelled_line}
use Rattle.problem_toml.specs.Refusals as problems
use Rattle.problem_toml.specs.declared.error.ProblemError.{ProblemError}
use Rattle.checkpoint.specs.Refusals as checkpoints
use Rattle.checkpoint.specs.declared.error.CheckpointError.{CheckpointError}

-- `number <k>`, which `rank` prints
abbrev pub number_line : ℕ → List ℕ
number_line number = labelled_line (codes "number") number

-- the text of a tree on a line of its own, which `unrank` prints
abbrev pub tree_line : DecoratedTree → List ℕ
tree_line g = tree_text g ++ codes "\n"

-- the line on standard error if a problem is refused
abbrev pub refused_line : ProblemError → List ℕ
refused_line error = codes "problem refused " ++ problems.refusal_of error ++ codes "\n"

-- the line on standard error if a checkpoint is refused
abbrev pub refused_checkpoint_line : CheckpointError → List ℕ
refused_checkpoint_line error = codes "checkpoint refused " ++ checkpoints.refusal_of error ++ codes "\n"

-- the line on standard error if a text is that of no decorated tree of a problem
abbrev pub refused_tree_line : TreeTextError → List ℕ
refused_tree_line error = codes "tree refused " ++ trees.refusal_of error ++ codes "\n"

-- `range refused <count>`, the line on standard error if numbers are not those of trees, of which there are so many, or are
-- too many
abbrev pub refused_range_line : ℕ → List ℕ
refused_range_line count = labelled_line (codes "range refused") count
