-- What `trees` prints, and when it is refused: read off from how the run ended.
use Rattle.std.proofs.Common.{◌≡◌, ◌≢◌, ℕ, inl, inr, List, [], Some, Ok, refl, sym, ap, ap₂, ◌∙◌, subst}
use Rattle.std.proofs.lemmas.Option.{same_Some}
use Rattle.locus_io.specs.Content.{NamedFiles}
use Rattle.problem.specs.Rules.{ProblemView}
use Rattle.problem_toml.specs.Reading.{reading}
use Rattle.command_line.specs.Requests.{Request, resume, make, trees, rank, unrank}
use Rattle.tree_listing.specs.Ranges.{IsListable}
use Rattle.tree_listing.specs.Texts.{trees_text}
use Rattle.tree_listing.proofs.Sums.{adds_up}
use Rattle.locus_core.specs.Words.{AsksFor}
use Rattle.locus_core.specs.Outside.{Change, FilesState, StopperState, TakesText}
use Rattle.locus_core.specs.Comes.{Comes, summed, made, ranked, unranked, listed, HoldsProblem, IsOutOfRange, problem_file_of}
use Rattle.locus_core.specs.Ends.{Run, Ends, printed, words_refused, problem_refused, read_fault, write_fault, checkpoint_refused, want_of_memory, range_refused, tree_refused}
use Rattle.locus_core.specs.Headline.{AsksOf}
use Rattle.locus_core.specs.Numbers.{PrintsList, IsRefusedUnless}
use Rattle.locus_core.proofs.Inversions.{same_request, one_problem, differ, text_begins_nothing}
use Rattle.locus_core.proofs.Consequences.{is_no_error, accepts_problem}
use Rattle.locus_core.proofs.Headline.{as_printed}

-- ---- what a request for a list came to
abbrev name_in : Request → List ℕ
name_in (trees name low high workers) = name
name_in _ = []

abbrev low_in : Request → ℕ
low_in (trees name low high workers) = low
low_in _ = 0

abbrev high_in : Request → ℕ
high_in (trees name low high workers) = high
high_in _ = 0

record CameByList (files : Change FilesState) (name : List ℕ) (low high n : ℕ) (text : List ℕ) : Type 0 where
  problem : ProblemView
  file : HoldsProblem files name problem
  range : IsListable problem low high
  zero : n ≡ 0
  text_is : text ≡ trees_text problem low high

came_by_list : {files : Change FilesState} {stopper : Change StopperState} {shares : List ℕ} {request : Request} {n : ℕ} {text : List ℕ}
    (name : List ℕ) (low high workers : ℕ) → Comes files stopper shares request n text → request ≡ trees name low high workers
    → CameByList files name low high n text
came_by_list {files} name low high workers (listed other l h w p held range shares still) e =
    let from : l ≡ low = ap low_in e in
    let to : h ≡ high = ap high_in e in
    record {
      problem = p;
      file = subst (λ x. HoldsProblem files x p) (ap name_in e) held;
      range = subst (λ x. IsListable p x high) from (subst (IsListable p l) to range);
      zero = refl;
      text_is = ap₂ (trees_text p) from to;
    }
came_by_list {files} name low high workers (summed request b outcome n line begins sums answer) e =
    absurd (text_begins_nothing files request b begins (inl (name, low, high, workers, e)))
came_by_list name low high workers (made k line reads none still) e =
    absurd (differ (make k) (trees name low high workers) e (λ x. cc))
came_by_list name low high workers (ranked other t p g h decorated has none still) e =
    absurd (differ (rank other t) (trees name low high workers) e (λ x. cc))
came_by_list name low high workers (unranked other p k h below none still) e =
    absurd (differ (unrank other k) (trees name low high workers) e (λ x. cc))

-- ---- what is printed
pub prints_list : (r : Run) (n : ℕ) → Ends r n → n ≡ 0 → (name : List ℕ) (low high workers : ℕ)
    → AsksFor r.words (trees name low high workers) → PrintsList r name low high
prints_list r n e zero name low high workers asks = as_printed r n (inl (inl zero)) e (λ request text words comes out.
    let c = came_by_list name low high workers comes (same_request r request (trees name low high workers) words asks) in
    record {
      problem = c.problem;
      file = c.file;
      range = c.range;
      out = subst (TakesText r.out) c.text_is out;
      sums = adds_up c.problem low high c.file.rules;
    })

-- ---- when it is refused
pub lists : (r : Run) (n : ℕ) → Ends r n → (told : NamedFiles) → r.files.before.content ≡ Some told → (bytes : List ℕ) (p : ProblemView)
    → n ≢ 6 → n ≢ 9 → reading bytes ≡ Ok p → (name : List ℕ) (low high workers : ℕ)
    → AsksOf r told (trees name low high workers) bytes → IsRefusedUnless (IsListable p low high) 10 r n
lists r n e told is bytes p six nine reads name low high workers asks = by_end e
  where
    fine : {m : ℕ} {text : List ℕ} → CameByList r.files name low high m text → IsListable p low high
    fine c = subst (λ q. IsListable q low high)
        (one_problem r told (trees name low high workers) bytes name p c.problem is asks refl reads c.file) c.range

    same : (other : Request) → AsksFor r.words other → other ≡ trees name low high workers
    same other words = same_request r other (trees name low high workers) words asks.words

    by_end : Ends r n → IsRefusedUnless (IsListable p low high) 10 r n
    by_end (printed w) =
        let c = came_by_list name low high workers w.comes (same w.request w.words) in inl (fine c, inl c.zero)
    by_end (write_fault seven w) =
        inl (fine (came_by_list name low high workers w.comes (same w.request w.words)), inr (seven, w.out.fault))
    by_end (words_refused two w) = absurd (w.words (trees name low high workers) asks.words)
    by_end (problem_refused three w) =
        absurd (is_no_error (reading bytes) p reads
        ((accepts_problem r n e told is (trees name low high workers) bytes six nine refl asks).0 three))
    by_end (read_fault fault w) = absurd (six fault)
    by_end (checkpoint_refused eight w) =
        absurd (differ (resume w.sum) (trees name low high workers) (same (resume w.sum) w.words) (λ x. cc))
    by_end (want_of_memory memory w) = absurd (nine memory)
    by_end (tree_refused eleven w) =
        absurd (differ (rank w.name w.text) (trees name low high workers) (same (rank w.name w.text) w.words) (λ x. cc))
    by_end (range_refused ten w) =
        let s = same w.request w.words in
        let file = subst (λ x. HoldsProblem r.files x w.problem) (same_Some w.name name (sym w.asked ∙ ap problem_file_of s)) w.file in
        let one = one_problem r told (trees name low high workers) bytes name p w.problem is asks refl reads file in
        inr (subst (λ q. ¬ IsListable q low high) one (subst (IsOutOfRange w.problem) s w.out_of_range), ten)
