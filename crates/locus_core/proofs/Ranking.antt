-- What is done of the problem of a file is what a request for a number, a tree or a list comes to.
use Rattle.std.proofs.Common.{◌≡◌, ℕ, ◌≤◌, ◌<◌, true, List, [], Some, Result, Ok, Err, IfOk, refl, sym, subst, inl}
use Rattle.trees.specs.Decorated.{DecoratedTree, is_decorated}
use Rattle.trees.specs.Texts.{tree_text}
use Rattle.trees.specs.TreeNumbers.{tree_of, number_of}
use Rattle.tree_text.specs.Refusals.{IsRefusal}
use Rattle.tree_text.specs.declared.error.TreeTextError.{TreeTextError}
use Rattle.command_line.specs.Requests.{Request, trees, rank, unrank}
use Rattle.problem.specs.declared.problem.Problem.{Problem}
use Rattle.problem.specs.Problems.{view}
use Rattle.problem.specs.Rules.{ProblemView, KeepsRules}
use Rattle.problem.specs.Sums.{count_of}
use Rattle.problem_toml.specs.Reading.{reading}
use Rattle.problem_toml.specs.declared.error.ProblemError.{ProblemError}
use Rattle.report.specs.Statuses.{code_of}
use Rattle.tree_listing.specs.Ranges.{IsListable, ShareBlocks}
use Rattle.tree_listing.specs.Texts.{trees_text}
use Rattle.lists.specs.declared.memory.NoMemory.{NoMemory}
use Rattle.locus_core.specs.Texts.{number_line, tree_line}
use Rattle.locus_core.specs.Outside.{Change, Unchanged, FilesState, StopperState}
use Rattle.locus_core.specs.Comes.{Comes, ranked, unranked, listed, HoldsProblem, IsOutOfRange, problem_file_of}
use Rattle.locus_core.specs.declared.work.Printable.{Printable}
use Rattle.locus_core.specs.declared.work.Refusal.{Refusal}
use Rattle.locus_core.specs.declared.work.Refusal.TheVariants as refusal
use Rattle.locus_core.specs.Steps.{Loads, IsWork, IsProblemOf, as_refusal, problem, tree, range}
use Rattle.locus_core.proofs.Loading.{problem_read, problem_refused}
use Rattle.locus_core.proofs.Works.{worked}

-- ---- the problem of a file
pub problem_is_held : (files : Change FilesState) (name got : List ℕ) (p : Problem) → Loads 1048576 files name got → reading got ≡ Ok (view p)
    → KeepsRules (view p) → Unchanged files → IsProblemOf name files (Ok p)
problem_is_held files name got p loads reads rules kept =
    (kept, record { bytes = got; file = problem_read files name got (view p) loads reads; reads = reads; rules = rules })

pub problem_is_refused : (files : Change FilesState) (name got : List ℕ) (error : ProblemError) → Loads 1048576 files name got → reading got ≡ Err error
    → Unchanged files → IsProblemOf name files (Err (refusal.Problem error))
problem_is_refused files name got error loads refused kept request stopper named still =
    let (bytes, file, why) = problem_refused files name got error loads refused in
    problem name bytes error named file why kept still

-- ---- a text of status 0
printed_so : (P : List ℕ → Type 0) (files : Change FilesState) (stopper : Change StopperState) (request : Request) (line : List ℕ) (r : Result Printable NoMemory) (result : Result Printable Refusal)
    → result ≡ as_refusal r → Unchanged files → Unchanged stopper → ((shares : List ℕ) → P shares → Comes files stopper shares request 0 line)
    → IfOk r (λ p. code_of p.status ≡ 0) → IfOk r (λ p. p.text.items ≡ line) → IfOk r (λ p. P p.shares) → IsWork request files stopper result
printed_so P files stopper request line (Ok p) result is kept still comes status text shares =
    worked request files stopper (Ok p) result is kept
    (subst (λ t. Comes files stopper p.shares request (code_of p.status) t) (sym text)
    (subst (λ n. Comes files stopper p.shares request n line) (sym status) (comes p.shares shares))) tt
printed_so P files stopper request line (Err e) result is kept still comes status text shares =
    worked request files stopper (Err e) result is kept tt (inl still)

pub rank_works : (files : Change FilesState) (name text : List ℕ) (p : ProblemView) (g : DecoratedTree) (r : Result Printable NoMemory) (result : Result Printable Refusal)
    → result ≡ as_refusal r → Unchanged files × HoldsProblem files name p → is_decorated p.shape g ≡ true → text ≡ tree_text g
    → IfOk r (λ x. code_of x.status ≡ 0) → IfOk r (λ x. x.text.items ≡ number_line (number_of p.shape g)) → IfOk r (λ x. x.shares ≡ [])
    → (stopper : Change StopperState) → Unchanged stopper → IsWork (rank name text) files stopper result
rank_works files name text p g r result is (kept, held) decorated has status written shares stopper still =
    printed_so (λ xs. xs ≡ []) files stopper (rank name text) (number_line (number_of p.shape g)) r result is kept still
    (λ xs none. ranked name text p g held decorated has none still) status written shares

pub unrank_works : (files : Change FilesState) (name : List ℕ) (number : ℕ) (p : ProblemView) (r : Result Printable NoMemory) (result : Result Printable Refusal)
    → result ≡ as_refusal r → Unchanged files × HoldsProblem files name p → number < count_of p → IfOk r (λ x. code_of x.status ≡ 0)
    → IfOk r (λ x. x.text.items ≡ tree_line (tree_of p.shape number)) → IfOk r (λ x. x.shares ≡ [])
    → (stopper : Change StopperState) → Unchanged stopper → IsWork (unrank name number) files stopper result
unrank_works files name number p r result is (kept, held) below status written shares stopper still =
    printed_so (λ xs. xs ≡ []) files stopper (unrank name number) (tree_line (tree_of p.shape number)) r result is kept still
    (λ xs none. unranked name p number held below none still) status written shares

pub list_works : (files : Change FilesState) (name : List ℕ) (low high workers : ℕ) (p : ProblemView) (r : Result Printable NoMemory) (result : Result Printable Refusal)
    → result ≡ as_refusal r → Unchanged files × HoldsProblem files name p → IsListable p low high → IfOk r (λ x. code_of x.status ≡ 0)
    → IfOk r (λ x. x.text.items ≡ trees_text p low high) → IfOk r (λ x. ShareBlocks low high workers x.shares)
    → (stopper : Change StopperState) → Unchanged stopper → IsWork (trees name low high workers) files stopper result
list_works files name low high workers p r result is (kept, held) within status written shares stopper still =
    printed_so (ShareBlocks low high workers) files stopper (trees name low high workers) (trees_text p low high) r result is kept still
    (λ xs blocks. listed name low high workers p held within blocks still) status written shares

-- ---- refusals
pub rank_refused : (files : Change FilesState) (name text : List ℕ) (p : ProblemView) (error : TreeTextError) → Unchanged files × HoldsProblem files name p
    → IsRefusal p.shape text error → (stopper : Change StopperState) → Unchanged stopper
    → IsWork (rank name text) files stopper (Err (refusal.Tree error))
rank_refused files name text p error (kept, held) refused stopper still = tree name text p error refl held refused kept still

range_refused : (files : Change FilesState) (request : Request) (name : List ℕ) (count : ℕ) (p : ProblemView) → problem_file_of request ≡ Some name
    → Unchanged files × HoldsProblem files name p → count ≡ count_of p → IsOutOfRange p request → (stopper : Change StopperState) → Unchanged stopper
    → IsWork request files stopper (Err (refusal.Range count))
range_refused files request name count p named (kept, held) is outside stopper still =
    subst (λ k. IsWork request files stopper (Err (refusal.Range k))) (sym is) (range name p named held outside kept still)

pub unrank_refused : (files : Change FilesState) (name : List ℕ) (number count : ℕ) (p : ProblemView) → Unchanged files × HoldsProblem files name p
    → count ≡ count_of p → count ≤ number → (stopper : Change StopperState) → Unchanged stopper
    → IsWork (unrank name number) files stopper (Err (refusal.Range count))
unrank_refused files name number count p held is above =
    range_refused files (unrank name number) name count p refl held is (subst (λ k. k ≤ number) is above)

pub list_refused : (files : Change FilesState) (name : List ℕ) (low high workers count : ℕ) (p : ProblemView) → Unchanged files × HoldsProblem files name p
    → count ≡ count_of p → ¬ IsListable p low high → (stopper : Change StopperState) → Unchanged stopper
    → IsWork (trees name low high workers) files stopper (Err (refusal.Range count))
list_refused files name low high workers count p held is outside =
    range_refused files (trees name low high workers) name count p refl held is outside
