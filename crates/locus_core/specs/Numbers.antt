-- What `rank`, `unrank` and `trees` print, when they are refused, and that of the first two each undoes the other.
use Rattle.std.specs.Prelude.{◌≡◌, ◌≢◌, ◌⊎◌, ℕ, ◌<◌, List, ◌++◌, Some, Ok, IfSome, codes}
use Rattle.lists.specs.Members.{IsIn}
use Rattle.trees.specs.Decorated.{DecoratedTree, all_trees}
use Rattle.trees.specs.Texts.{tree_text}
use Rattle.trees.specs.TreeNumbers.{tree_of, number_of}
use Rattle.tree_text.specs.Grammar.{IsTextOfTree}
use Rattle.locus_io.specs.Causes.{Rose}
use Rattle.locus_io.specs.Content.{NamedFiles}
use Rattle.problem.specs.Rules.{ProblemView}
use Rattle.problem.specs.Sums.{count_of}
use Rattle.problem_toml.specs.Reading.{reading}
use Rattle.command_line.specs.Requests.{Request, trees, rank, unrank}
use Rattle.tree_listing.specs.Ranges.{IsListable, AddUp}
use Rattle.tree_listing.specs.Texts.{trees_text}
use Rattle.locus_core.specs.Words.{AsksFor}
use Rattle.locus_core.specs.Texts.{number_line, tree_line}
use Rattle.locus_core.specs.Outside.{TakesText}
use Rattle.locus_core.specs.Comes.{HoldsProblem}
use Rattle.locus_core.specs.Ends.{Run, Ends}
use Rattle.locus_core.specs.Headline.{AsksOf}
use Rattle.locus_core.specs.Chains.{HasPrinted}

-- Of all decorated trees of the problem that the file writes, the one that has the text was found, and its number was printed.
pub record PrintsNumber (r : Run) (name text : List ℕ) : Type 0 where
  pub problem : ProblemView
  pub tree : DecoratedTree
  pub file : HoldsProblem r.files name problem
  pub listed : IsIn tree (all_trees problem.shape)
  pub is : text ≡ tree_text tree
  pub out : TakesText r.out (number_line (number_of problem.shape tree))

-- The text of the tree of the number was printed, among those of the problem that the file writes.
pub record PrintsTree (r : Run) (name : List ℕ) (number : ℕ) : Type 0 where
  pub problem : ProblemView
  pub file : HoldsProblem r.files name problem
  pub below : number < count_of problem
  pub out : TakesText r.out (tree_line (tree_of problem.shape number))

-- The trees of the numbers from low to high - 1 were listed with the residues of their contributions, whatever the number of
-- workers. If none of these is missing, they add up to the residue of the partial sum, and that of all trees is Kontsevich's.
pub record PrintsList (r : Run) (name : List ℕ) (low high : ℕ) : Type 0 where
  pub problem : ProblemView
  pub file : HoldsProblem r.files name problem
  pub range : IsListable problem low high
  pub out : TakesText r.out (trees_text problem low high)
  pub sums : AddUp problem low high

-- what is printed at status 0
abbrev pub PrintsNumbers : Run → ℕ → Type 0
PrintsNumbers r n = n ≡ 0 → ((name text : List ℕ) → AsksFor r.words (rank name text) → PrintsNumber r name text)
    × ((name : List ℕ) (number : ℕ) → AsksFor r.words (unrank name number) → PrintsTree r name number)
    × ((name : List ℕ) (low high workers : ℕ) → AsksFor r.words (trees name low high workers) → PrintsList r name low high)

-- If this is so, the text that is asked for was printed, or the output counted a fault; and otherwise the run was refused,
-- with this status.
abbrev pub IsRefusedUnless : Type 0 → ℕ → Run → ℕ → Type 0
IsRefusedUnless Fine refusal r n =
    (Fine × ((n ≡ 0) ⊎ ((n ≡ 7) × Rose r.out.before.faults r.out.after.faults))) ⊎ ((¬ Fine) × (n ≡ refusal))

-- If the file was read and writes a problem, and memory was not refused: `rank` is refused exactly if the text is that of no
-- decorated tree of the problem, `unrank` exactly if the number is not below the number of them, and `trees` exactly if the
-- numbers cannot be listed.
abbrev pub DecidesNumbers : Run → ℕ → Type 0
DecidesNumbers r n = IfSome r.files.before.content (λ told. (bytes : List ℕ) (p : ProblemView) → n ≢ 6 → n ≢ 9 → reading bytes ≡ Ok p
    → ((name text : List ℕ) → AsksOf r told (rank name text) bytes → IsRefusedUnless (IsTextOfTree p.shape text) 11 r n)
    × ((name : List ℕ) (number : ℕ) → AsksOf r told (unrank name number) bytes → IsRefusedUnless (number < count_of p) 10 r n)
    × ((name : List ℕ) (low high workers : ℕ) → AsksOf r told (trees name low high workers) bytes
    → IsRefusedUnless (IsListable p low high) 10 r n))

-- ---- two runs

-- the words ask for this, and the file that they name holds these bytes
pub record AsksOfBytes (r : Run) (request : Request) (bytes : List ℕ) : Type 0 where
  pub told : NamedFiles
  pub files : r.files.before.content ≡ Some told
  pub asks : AsksOf r told request bytes

-- this text was printed, but for a fault of the files or of the output, and for want of memory
abbrev pub PrintsBut : List ℕ → Run → ℕ → Type 0
PrintsBut text r n = ((n ≡ 0) × TakesText r.out text) ⊎ (n ≡ 6) ⊎ (n ≡ 7) ⊎ (n ≡ 9)

-- Of files with the same bytes: if an earlier run has printed the tree of a number, `rank` of that text prints the number;
-- and if it has printed the number of a text, `unrank` of that number prints the text.
pub record UndoesNumbers (r : Run) (n : ℕ) : Type 0 where
  pub rank_unranked : (other : Run) (bytes name other_name text : List ℕ) (number : ℕ) → Ends other 0
      → AsksOfBytes other (unrank other_name number) bytes → HasPrinted other (text ++ codes "\n") → AsksOfBytes r (rank name text) bytes
      → PrintsBut (number_line number) r n
  pub unrank_ranked : (other : Run) (bytes name other_name text : List ℕ) (number : ℕ) → Ends other 0
      → AsksOfBytes other (rank other_name text) bytes → HasPrinted other (number_line number) → AsksOfBytes r (unrank name number) bytes
      → PrintsBut (text ++ codes "\n") r n
