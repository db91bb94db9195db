-- What was printed of a sum, whose shares, and which bytes: read off from how the run ended.
use Rattle.std.proofs.Common.{◌≡◌, ◌≢◌, ◌⊎◌, ℕ, inl, inr, ◌+◌, ◌<◌, ◌≤◌, true, List, [], Some, Ok, refl, sym, ◌∙◌, subst, arith, ⊎_elim}
use Rattle.std.proofs.lemmas.Bool.{cases_lt}
use Rattle.trees.specs.Decorated.{DecoratedTree, all_trees}
use Rattle.lists.specs.Members.{IsIn}
use Rattle.trees.specs.TreeNumbers.{number_of}
use Rattle.trees.proofs.TreeNumbers.{tree_of_in_all_trees}
use Rattle.localisation.specs.Agreement.{NoneBad, IsLeastBad, IsFirstBad}
use Rattle.localisation.proofs.AllNumbers.{bad_number_of, none_append}
use Rattle.problem.specs.Rules.{ProblemView, KeepsRules}
use Rattle.problem.specs.Sums.{count_of, is_bad_of, is_bad_modulo, is_bad_tree_of}
use Rattle.problem_toml.specs.Reading.{reading}
use Rattle.report.specs.Outcome.{LacksInverse}
use Rattle.report.proofs.Sums.{sums_found}
use Rattle.rounds.specs.Rounds.{budget_end, reached}
use Rattle.rounds.specs.Outcomes.{SumView, IsDone, IsPaused, IsNoInverse}
use Rattle.rounds.specs.declared.progress.Outcome.{Outcome}
use Rattle.rounds.specs.declared.progress.Outcome.TheVariants.{Done, Paused}
use Rattle.rounds.proofs.Running.{keeps_truth}
use Rattle.command_line.specs.Requests.{Request, make, rank, unrank}
use Rattle.locus_core.specs.Words.{AsksFor}
use Rattle.locus_core.specs.Outside.{Change, FilesState, StopperState, Unchanged, TakesText, BreaksOff}
use Rattle.locus_core.specs.Begins.{Beginning, Begins, by_run, by_resume, by_soak}
use Rattle.locus_core.specs.Comes.{Comes, summed, made, ranked, unranked, listed, RunsRounds, IsAnswer, done, paused, no_inverse}
use Rattle.locus_core.specs.Ends.{Run, Printed, WordsRefused, ProblemRefused, CheckpointRefused, ReadFault, WriteFault, WantOfMemory, RangeRefused, TreeRefused, Ends, printed, words_refused, problem_refused, read_fault, write_fault, checkpoint_refused, want_of_memory, range_refused, tree_refused}
use Rattle.locus_core.specs.Headline.{IsDoneStatus, IsPrintedStatus, end_of, PrintsSums, PrintsItsSums, NamesLeast, PrintsCheckpoint, SharesBlocks, SharesList, NeedsNoWorkers, SumsNothing, IsSilentStatus, ClaimsBlocks, WritesBytes}
use Rattle.locus_core.proofs.TrueSums.{none_bad_before, true_at}
use Rattle.locus_core.proofs.Inversions.{same_request, AsksAlone, AsksText, alone_lists_nothing, text_begins_nothing}
use Rattle.locus_core.proofs.Consequences.{done_is, came, came_printed, CameBySum, CameByText, never}
use Rattle.locus_core.proofs.Decided.{small_degree, below_count, no_bad_tree, paused_end}

-- ---- a sum that is begun
-- no more trees are summed than there are
within : (files : Change FilesState) (request : Request) (b : Beginning) → Begins files request b → b.sum.next ≤ count_of b.sum.problem
within files _ _ (by_run s bytes p file reads) = omega arith
within files _ _ (by_resume s bytes state file is of) = is.next
within files _ _ (by_soak number workers) = omega arith

-- the text of a source that reads as the problem of the sum
reads_source : (files : Change FilesState) (request : Request) (b : Beginning) (source : List ℕ) → Begins files request b → b.source ≡ Some source
    → reading source ≡ Ok b.sum.problem
reads_source files _ _ source (by_run s bytes p file reads) is = let same : bytes ≡ source = cc in subst (λ t. reading t ≡ Ok p) same reads
reads_source files _ _ source (by_resume s bytes state file is_state of) is =
    let same : state.source ≡ source = cc in subst (λ t. reading t ≡ Ok state.problem) same is_state.problem
reads_source files _ _ source (by_soak number workers) is = absurd (let f : ⊥ = cc in f)

-- ---- what was printed
sums_printed : (r : Run) (request : Request) (b : Beginning) (o : Outcome) (n : ℕ) (text : List ℕ) → AsksFor r.words request → Begins r.files request b
    → RunsRounds b r.stopper r.shares o → IsAnswer b o n text → TakesText r.out text → IsDoneStatus n → PrintsSums r n
sums_printed r request b _ _ _ asks begins sums (done residues fractions are) out is =
    let d : IsDone b.sum b.plan.budget sums.progress.rounds residues = sums.progress.outcome in
    let truth = keeps_truth b.sum b.plan.budget sums.progress.rounds (Done residues) sums.rules (within r.files request b begins) sums.progress.outcome in
    record {
      beginning = b;
      residues = residues;
      fractions = fractions;
      begun = record { request = request; words = asks; begins = begins };
      summed = d.summed;
      agree = are;
      status = refl;
      none_bad = λ t. no_bad_tree b.sum b.plan.budget sums.progress.rounds residues sums.rules d (true_at b sums.rules t);
      truth = λ t. truth (true_at b sums.rules t);
      found = λ t. sums_found b.sum.problem residues fractions (truth (true_at b sums.rules t)) are;
      stopper = sums.kept (λ early. early);
      out = out;
    }
sums_printed r request b _ _ _ asks begins sums (paused source next residues same) out (inl e) = absurd (omega (arith, e))
sums_printed r request b _ _ _ asks begins sums (paused source next residues same) out (inr e) = absurd (omega (arith, e))
sums_printed r request b _ _ _ asks begins sums (no_inverse number index) out (inl e) = absurd (omega (arith, e))
sums_printed r request b _ _ _ asks begins sums (no_inverse number index) out (inr e) = absurd (omega (arith, e))

-- a status at which a text is printed is none of those that print nothing
silent_never : (n : ℕ) → IsPrintedStatus n → IsSilentStatus n → ⊥
silent_never n p (inl e) = never n 2 p e refl
silent_never n p (inr (inl e)) = never n 3 p e refl
silent_never n p (inr (inr (inl e))) = never n 6 p e refl
silent_never n p (inr (inr (inr (inl e)))) = never n 8 p e refl
silent_never n p (inr (inr (inr (inr (inl e))))) = never n 9 p e refl
silent_never n p (inr (inr (inr (inr (inr (inl e)))))) = never n 10 p e refl
silent_never n p (inr (inr (inr (inr (inr (inr e)))))) = never n 11 p e refl

-- a prefix of a text may be on the output at status 7
seven_tells : (n : ℕ) → IsSilentStatus n → n ≡ 7 → ⊥
seven_tells n (inl k) e = omega (arith, k, e)
seven_tells n (inr (inl k)) e = omega (arith, k, e)
seven_tells n (inr (inr (inl k))) e = omega (arith, k, e)
seven_tells n (inr (inr (inr (inl k)))) e = omega (arith, k, e)
seven_tells n (inr (inr (inr (inr (inl k))))) e = omega (arith, k, e)
seven_tells n (inr (inr (inr (inr (inr (inl k)))))) e = omega (arith, k, e)
seven_tells n (inr (inr (inr (inr (inr (inr k)))))) e = omega (arith, k, e)

-- at the status of a printed text, the run ended so
pub as_printed : {P : Type 0} (r : Run) (n : ℕ) → IsPrintedStatus n → Ends r n
    → ((request : Request) (text : List ℕ) → AsksFor r.words request → Comes r.files r.stopper r.shares request n text → TakesText r.out text → P) → P
as_printed r n is (printed w) f = f w.request w.text w.words w.comes w.out
as_printed r n is (words_refused e w) f = absurd (never n 2 is e refl)
as_printed r n is (problem_refused e w) f = absurd (never n 3 is e refl)
as_printed r n is (read_fault e w) f = absurd (never n 6 is e refl)
as_printed r n is (write_fault e w) f = absurd (never n 7 is e refl)
as_printed r n is (checkpoint_refused e w) f = absurd (never n 8 is e refl)
as_printed r n is (want_of_memory e w) f = absurd (never n 9 is e refl)
as_printed r n is (range_refused e w) f = absurd (never n 10 is e refl)
as_printed r n is (tree_refused e w) f = absurd (never n 11 is e refl)

-- words for another text than that of a sum
pub sums_nothing : (r : Run) (request : Request) → AsksFor r.words request → AsksText request → SumsNothing r
sums_nothing r request asks (inl (name, low, high, workers, same)) =
    inl (name, low, high, workers, subst (AsksFor r.words) same asks)
sums_nothing r request asks (inr (inl (k, same))) = inr (inl (k, subst (AsksFor r.words) same asks))
sums_nothing r request asks (inr (inr (inl (name, text, same)))) = inr (inr (inl (name, text, subst (AsksFor r.words) same asks)))
sums_nothing r request asks (inr (inr (inr (name, k, same)))) = inr (inr (inr (name, k, subst (AsksFor r.words) same asks)))

-- the request of words for what needs no workers
nothing_asked : (r : Run) (request : Request) → AsksFor r.words request → NeedsNoWorkers r → AsksAlone request
nothing_asked r request asks (inl (k, other)) = inl (k, same_request r request (make k) asks other)
nothing_asked r request asks (inr (inl (name, text, other))) = inr (inl (name, text, same_request r request (rank name text) asks other))
nothing_asked r request asks (inr (inr (name, k, other))) = inr (inr (name, k, same_request r request (unrank name k) asks other))

pub sums : (r : Run) (n : ℕ) → Ends r n → PrintsItsSums r n
sums r n e some is = as_printed r n (inl is) e (λ request text asks comes out. by request text asks out (came comes))
  where
    by : (request : Request) (text : List ℕ) → AsksFor r.words request → TakesText r.out text
        → CameBySum r.files r.stopper r.shares request n text ⊎ CameByText request n → PrintsSums r n
    by request text asks out (inl c) = sums_printed r request c.beginning c.outcome n text asks c.begins c.sums c.answer out is
    by request text asks out (inr c) = absurd (some (sums_nothing r request asks c.asked))

-- ---- the least bad number
-- a decorated tree that is bad has the least bad number or a greater one
no_less : (p : ProblemView) (number : ℕ) → KeepsRules p → IsLeastBad (is_bad_of p) 0 (count_of p) number
    → (g : DecoratedTree) → IsIn g (all_trees p.shape) → is_bad_tree_of p g ≡ true → number ≤ number_of p.shape g
no_less p number rules least g i bad =
    let n = bad_number_of p.weights p.integrals p.moduli p.shape g (small_degree p rules) i bad in
    ⊎_elim (λ l. absurd (least.least (number_of p.shape g) (omega arith) l n.1)) (λ h. h) (cases_lt (number_of p.shape g) number)

of_all_trees : (p : ProblemView) (number index : ℕ) → KeepsRules p → IsLeastBad (is_bad_of p) 0 (count_of p) number
    → IsFirstBad (is_bad_modulo p number) p.moduli index → LacksInverse p number index
of_all_trees p number index rules least first = record {
  least = least;
  first = first;
  tree = tree_of_in_all_trees p.shape number (small_degree p rules) least.below;
  least_of_all = no_less p number rules least;
}

least_of_rounds : (s : SumView) (budget k number index : ℕ) → IsNoInverse s budget k number index
    → IsLeastBad (is_bad_of s.problem) s.next (count_of s.problem) number
least_of_rounds s budget k number index h =
    let last = h.last in
    let started = h.rounds h.round (let l : h.round < k = omega (arith, last) in l) in
    let from = h.least.from in
    record {
      from = omega (arith, from, started);
      below = below_count s budget k number index h;
      is_bad = h.least.is_bad;
      least = λ j a b t.
          none_append (is_bad_of s.problem) s.next (reached s.next (budget_end (count_of s.problem) s.next budget) h.round) number h.earlier h.least.least j a b t;
    }

-- if no number before the first one is bad, it is the least of all
from_first : (s : SumView) (number : ℕ) → NoneBad (is_bad_of s.problem) 0 s.next → IsLeastBad (is_bad_of s.problem) s.next (count_of s.problem) number
    → IsLeastBad (is_bad_of s.problem) 0 (count_of s.problem) number
from_first s number none l = record {
  from = omega arith;
  below = l.below;
  is_bad = l.is_bad;
  least = λ j a b t. none_append (is_bad_of s.problem) 0 s.next number none l.least j a b t;
}

least_printed : (r : Run) (request : Request) (b : Beginning) (o : Outcome) (n : ℕ) (text : List ℕ) → AsksFor r.words request → Begins r.files request b
    → RunsRounds b r.stopper r.shares o → IsAnswer b o n text → TakesText r.out text → n ≡ 4 → NamesLeast r
least_printed r request b _ _ _ asks begins sums (no_inverse number index) out is =
    let h : IsNoInverse b.sum b.plan.budget sums.progress.rounds number index = sums.progress.outcome in
    let least = least_of_rounds b.sum b.plan.budget sums.progress.rounds number index h in
    record {
      beginning = b;
      number = number;
      index = index;
      begun = record { request = request; words = asks; begins = begins };
      least = least;
      first = h.first;
      of_all = λ t.
          of_all_trees b.sum.problem number index sums.rules
          (from_first b.sum number (none_bad_before b.sum sums.rules (true_at b sums.rules t)) least) h.first;
      stopper = sums.kept (λ early. early);
      out = out;
    }
least_printed r request b _ _ _ asks begins sums (paused source next residues same) out is = absurd (omega (arith, is))
least_printed r request b _ _ _ asks begins sums (done residues fractions are) out is = absurd (by (done_is fractions) is)
  where
    by : {k : ℕ} → IsDoneStatus k → k ≡ 4 → ⊥
    by (inl i) f = omega (arith, i, f)
    by (inr i) f = omega (arith, i, f)

pub refusal : (r : Run) (n : ℕ) → Ends r n → n ≡ 4 → NamesLeast r
refusal r n e is = as_printed r n (inr (inl is)) e (λ request text asks comes out. by request text asks out (came comes))
  where
    by : (request : Request) (text : List ℕ) → AsksFor r.words request → TakesText r.out text
        → CameBySum r.files r.stopper r.shares request n text ⊎ CameByText request n → NamesLeast r
    by request text asks out (inl c) = least_printed r request c.beginning c.outcome n text asks c.begins c.sums c.answer out is
    by request text asks out (inr c) = let zero = c.zero in absurd (omega (arith, zero, is))

-- ---- pauses
before_end : (b : Beginning) (next : ℕ) → next < b.sum.next + b.plan.budget → next < count_of b.sum.problem → next < end_of b
before_end b next early left = omega (arith, early, left)

pause_printed : (r : Run) (request : Request) (b : Beginning) (o : Outcome) (n : ℕ) (text : List ℕ) → AsksFor r.words request → Begins r.files request b
    → RunsRounds b r.stopper r.shares o → IsAnswer b o n text → TakesText r.out text → n ≡ 5 → PrintsCheckpoint r
pause_printed r request b _ _ _ asks begins sums (paused source next residues same) out is =
    let h : IsPaused b.sum b.plan.budget sums.progress.rounds next residues = sums.progress.outcome in
    let left = h.left in
    let at = h.at in
    let truth = keeps_truth b.sum b.plan.budget sums.progress.rounds (Paused next residues) sums.rules (within r.files request b begins) sums.progress.outcome in
    record {
      beginning = b;
      source = source;
      rounds = sums.progress.rounds;
      next = next;
      residues = residues;
      begun = record { request = request; words = asks; begins = begins };
      same_source = same;
      state = record {
        problem = reads_source r.files request b source begins same;
        rules = sums.rules;
        next = omega (arith, left);
        residues = h.summed.are_residues;
      };
      paused = h;
      truth = λ t. truth (true_at b sums.rules t);
      cause = ⊎_elim
          (λ early. let stopped = sums.stopped early in inr (before_end b next early left, stopped.0, stopped.1))
          (λ late. inl (
            sym (paused_end (count_of b.sum.problem) b.sum.next b.plan.budget sums.progress.rounds next at left (λ early. omega (arith, early, late))),
            sums.kept (λ early. omega (arith, early, late)),
          ))
          (cases_lt next (b.sum.next + b.plan.budget));
      out = out;
    }
pause_printed r request b _ _ _ asks begins sums (no_inverse number index) out is = absurd (omega (arith, is))
pause_printed r request b _ _ _ asks begins sums (done residues fractions are) out is = absurd (by (done_is fractions) is)
  where
    by : {k : ℕ} → IsDoneStatus k → k ≡ 5 → ⊥
    by (inl i) f = omega (arith, i, f)
    by (inr i) f = omega (arith, i, f)

pub pause : (r : Run) (n : ℕ) → Ends r n → n ≡ 5 → PrintsCheckpoint r
pause r n e is = as_printed r n (inr (inr is)) e (λ request text asks comes out. by request text asks out (came comes))
  where
    by : (request : Request) (text : List ℕ) → AsksFor r.words request → TakesText r.out text
        → CameBySum r.files r.stopper r.shares request n text ⊎ CameByText request n → PrintsCheckpoint r
    by request text asks out (inl c) = pause_printed r request c.beginning c.outcome n text asks c.begins c.sums c.answer out is
    by request text asks out (inr c) = let zero = c.zero in absurd (omega (arith, zero, is))

-- ---- shares
shared_by : (r : Run) (n : ℕ) (request : Request) {m : ℕ} {text : List ℕ} → AsksFor r.words request
    → Comes r.files r.stopper r.shares request m text
    → ((n ≡ m) × TakesText r.out text) ⊎ ((n ≡ 7) × BreaksOff r.out text)
    → NeedsNoWorkers r ⊎ SharesBlocks r n ⊎ SharesList r n ⊎ IsSilentStatus n
shared_by r n _ asks (summed request b outcome m text begins sums answer) out = inr (inl (record {
  beginning = b;
  outcome = outcome;
  status = m;
  text = text;
  begun = record { request = request; words = asks; begins = begins };
  progress = sums.progress;
  answer = answer;
  out = out;
}))
shared_by r n _ asks (made k text reads none still) out = inl (inl (k, asks))
shared_by r n _ asks (ranked name text p g file decorated has none still) out = inl (inr (inl (name, text, asks)))
shared_by r n _ asks (unranked name p k file below none still) out = inl (inr (inr (name, k, asks)))
shared_by r n _ asks (listed name low high workers p file range shares still) out = inr (inr (inl (record {
  name = name;
  low = low;
  high = high;
  workers = workers;
  words = asks;
  shares = shares;
  status = ⊎_elim (λ o. inl o.0) (λ o. inr o.0) out;
})))

-- there are no shares if no workers are needed
text_alone : {files : Change FilesState} {stopper : Change StopperState} {shares : List ℕ} {request : Request} {n : ℕ} {text : List ℕ}
    → Comes files stopper shares request n text → AsksAlone request → shares ≡ []
text_alone {files} (summed request b outcome n text begins sums answer) e =
    absurd (text_begins_nothing files request b begins (inr e))
text_alone (made k text reads none still) e = none
text_alone (ranked name text p g file decorated has none still) e = none
text_alone (unranked name p k file below none still) e = none
text_alone (listed name low high workers p file range shares still) e = absurd (alone_lists_nothing name low high workers e)

pub claims : (r : Run) (n : ℕ) → Ends r n → ClaimsBlocks r n
claims r n e = (shared e, none e)
  where
    silent : IsSilentStatus n → NeedsNoWorkers r ⊎ SharesBlocks r n ⊎ SharesList r n ⊎ IsSilentStatus n
    silent is = inr (inr (inr is))

    shared : Ends r n → NeedsNoWorkers r ⊎ SharesBlocks r n ⊎ SharesList r n ⊎ IsSilentStatus n
    shared (printed w) = shared_by r n w.request w.words w.comes (inl (refl, w.out))
    shared (write_fault seven w) = shared_by r n w.request w.words w.comes (inr (seven, w.out))
    shared (words_refused k w) = silent (inl k)
    shared (problem_refused k w) = silent (inr (inl k))
    shared (read_fault k w) = silent (inr (inr (inl k)))
    shared (checkpoint_refused k w) = silent (inr (inr (inr (inl k))))
    shared (want_of_memory k w) = silent (inr (inr (inr (inr (inl k)))))
    shared (range_refused k w) = silent (inr (inr (inr (inr (inr (inl k))))))
    shared (tree_refused k w) = silent (inr (inr (inr (inr (inr (inr k))))))

    none : Ends r n → NeedsNoWorkers r ⊎ IsSilentStatus n → r.shares ≡ []
    none (printed w) (inl nothing) = text_alone w.comes (nothing_asked r w.request w.words nothing)
    none (printed w) (inr is) = absurd (silent_never n (came_printed w.comes) is)
    none (write_fault seven w) (inl nothing) = text_alone w.comes (nothing_asked r w.request w.words nothing)
    none (write_fault seven w) (inr is) = absurd (seven_tells n is seven)
    none (words_refused k w) is = w.idle.shares
    none (problem_refused k w) is = w.idle.shares
    none (read_fault k w) is = w.idle.shares
    none (checkpoint_refused k w) is = w.idle.shares
    none (want_of_memory k w) is = w.shares
    none (range_refused k w) is = w.idle.shares
    none (tree_refused k w) is = w.idle.shares

-- ---- bytes
apart : (n a b : ℕ) → n ≡ a → n ≡ b → a ≢ b → ⊥
apart n a b e f h = h (sym e ∙ f)

pub bytes : (r : Run) (n : ℕ) → Ends r n → WritesBytes r n
bytes r n e = record {
  printed = at_printed e;
  words_refused = at_words e;
  problem_refused = at_problem e;
  read_fault = at_read e;
  write_fault = at_write e;
  checkpoint_refused = at_checkpoint e;
  want_of_memory = at_memory e;
  range_refused = at_range e;
  tree_refused = at_tree e;
  silent = at_silent e;
  served = at_served e;
}
  where
    at_printed : Ends r n → IsPrintedStatus n → Printed r n
    at_printed (printed w) is = w
    at_printed (words_refused k w) is = absurd (never n 2 is k refl)
    at_printed (problem_refused k w) is = absurd (never n 3 is k refl)
    at_printed (read_fault k w) is = absurd (never n 6 is k refl)
    at_printed (write_fault k w) is = absurd (never n 7 is k refl)
    at_printed (checkpoint_refused k w) is = absurd (never n 8 is k refl)
    at_printed (want_of_memory k w) is = absurd (never n 9 is k refl)
    at_printed (range_refused k w) is = absurd (never n 10 is k refl)
    at_printed (tree_refused k w) is = absurd (never n 11 is k refl)

    at_words : Ends r n → n ≡ 2 → WordsRefused r
    at_words (printed w) is = absurd (never n 2 (came_printed w.comes) is refl)
    at_words (words_refused k w) is = w
    at_words (problem_refused k w) is = absurd (apart n 3 2 k is (λ x. cc))
    at_words (read_fault k w) is = absurd (apart n 6 2 k is (λ x. cc))
    at_words (write_fault k w) is = absurd (apart n 7 2 k is (λ x. cc))
    at_words (checkpoint_refused k w) is = absurd (apart n 8 2 k is (λ x. cc))
    at_words (want_of_memory k w) is = absurd (apart n 9 2 k is (λ x. cc))
    at_words (range_refused k w) is = absurd (apart n 10 2 k is (λ x. cc))
    at_words (tree_refused k w) is = absurd (apart n 11 2 k is (λ x. cc))

    at_problem : Ends r n → n ≡ 3 → ProblemRefused r
    at_problem (printed w) is = absurd (never n 3 (came_printed w.comes) is refl)
    at_problem (words_refused k w) is = absurd (apart n 2 3 k is (λ x. cc))
    at_problem (problem_refused k w) is = w
    at_problem (read_fault k w) is = absurd (apart n 6 3 k is (λ x. cc))
    at_problem (write_fault k w) is = absurd (apart n 7 3 k is (λ x. cc))
    at_problem (checkpoint_refused k w) is = absurd (apart n 8 3 k is (λ x. cc))
    at_problem (want_of_memory k w) is = absurd (apart n 9 3 k is (λ x. cc))
    at_problem (range_refused k w) is = absurd (apart n 10 3 k is (λ x. cc))
    at_problem (tree_refused k w) is = absurd (apart n 11 3 k is (λ x. cc))

    at_read : Ends r n → n ≡ 6 → ReadFault r
    at_read (printed w) is = absurd (never n 6 (came_printed w.comes) is refl)
    at_read (words_refused k w) is = absurd (apart n 2 6 k is (λ x. cc))
    at_read (problem_refused k w) is = absurd (apart n 3 6 k is (λ x. cc))
    at_read (read_fault k w) is = w
    at_read (write_fault k w) is = absurd (apart n 7 6 k is (λ x. cc))
    at_read (checkpoint_refused k w) is = absurd (apart n 8 6 k is (λ x. cc))
    at_read (want_of_memory k w) is = absurd (apart n 9 6 k is (λ x. cc))
    at_read (range_refused k w) is = absurd (apart n 10 6 k is (λ x. cc))
    at_read (tree_refused k w) is = absurd (apart n 11 6 k is (λ x. cc))

    at_write : Ends r n → n ≡ 7 → WriteFault r
    at_write (printed w) is = absurd (never n 7 (came_printed w.comes) is refl)
    at_write (words_refused k w) is = absurd (apart n 2 7 k is (λ x. cc))
    at_write (problem_refused k w) is = absurd (apart n 3 7 k is (λ x. cc))
    at_write (read_fault k w) is = absurd (apart n 6 7 k is (λ x. cc))
    at_write (write_fault k w) is = w
    at_write (checkpoint_refused k w) is = absurd (apart n 8 7 k is (λ x. cc))
    at_write (want_of_memory k w) is = absurd (apart n 9 7 k is (λ x. cc))
    at_write (range_refused k w) is = absurd (apart n 10 7 k is (λ x. cc))
    at_write (tree_refused k w) is = absurd (apart n 11 7 k is (λ x. cc))

    at_checkpoint : Ends r n → n ≡ 8 → CheckpointRefused r
    at_checkpoint (printed w) is = absurd (never n 8 (came_printed w.comes) is refl)
    at_checkpoint (words_refused k w) is = absurd (apart n 2 8 k is (λ x. cc))
    at_checkpoint (problem_refused k w) is = absurd (apart n 3 8 k is (λ x. cc))
    at_checkpoint (read_fault k w) is = absurd (apart n 6 8 k is (λ x. cc))
    at_checkpoint (write_fault k w) is = absurd (apart n 7 8 k is (λ x. cc))
    at_checkpoint (checkpoint_refused k w) is = w
    at_checkpoint (want_of_memory k w) is = absurd (apart n 9 8 k is (λ x. cc))
    at_checkpoint (range_refused k w) is = absurd (apart n 10 8 k is (λ x. cc))
    at_checkpoint (tree_refused k w) is = absurd (apart n 11 8 k is (λ x. cc))

    at_memory : Ends r n → n ≡ 9 → WantOfMemory r
    at_memory (printed w) is = absurd (never n 9 (came_printed w.comes) is refl)
    at_memory (words_refused k w) is = absurd (apart n 2 9 k is (λ x. cc))
    at_memory (problem_refused k w) is = absurd (apart n 3 9 k is (λ x. cc))
    at_memory (read_fault k w) is = absurd (apart n 6 9 k is (λ x. cc))
    at_memory (write_fault k w) is = absurd (apart n 7 9 k is (λ x. cc))
    at_memory (checkpoint_refused k w) is = absurd (apart n 8 9 k is (λ x. cc))
    at_memory (want_of_memory k w) is = w
    at_memory (range_refused k w) is = absurd (apart n 10 9 k is (λ x. cc))
    at_memory (tree_refused k w) is = absurd (apart n 11 9 k is (λ x. cc))

    at_range : Ends r n → n ≡ 10 → RangeRefused r
    at_range (printed w) is = absurd (never n 10 (came_printed w.comes) is refl)
    at_range (words_refused k w) is = absurd (apart n 2 10 k is (λ x. cc))
    at_range (problem_refused k w) is = absurd (apart n 3 10 k is (λ x. cc))
    at_range (read_fault k w) is = absurd (apart n 6 10 k is (λ x. cc))
    at_range (write_fault k w) is = absurd (apart n 7 10 k is (λ x. cc))
    at_range (checkpoint_refused k w) is = absurd (apart n 8 10 k is (λ x. cc))
    at_range (want_of_memory k w) is = absurd (apart n 9 10 k is (λ x. cc))
    at_range (range_refused k w) is = w
    at_range (tree_refused k w) is = absurd (apart n 11 10 k is (λ x. cc))

    at_tree : Ends r n → n ≡ 11 → TreeRefused r
    at_tree (printed w) is = absurd (never n 11 (came_printed w.comes) is refl)
    at_tree (words_refused k w) is = absurd (apart n 2 11 k is (λ x. cc))
    at_tree (problem_refused k w) is = absurd (apart n 3 11 k is (λ x. cc))
    at_tree (read_fault k w) is = absurd (apart n 6 11 k is (λ x. cc))
    at_tree (write_fault k w) is = absurd (apart n 7 11 k is (λ x. cc))
    at_tree (checkpoint_refused k w) is = absurd (apart n 8 11 k is (λ x. cc))
    at_tree (want_of_memory k w) is = absurd (apart n 9 11 k is (λ x. cc))
    at_tree (range_refused k w) is = absurd (apart n 10 11 k is (λ x. cc))
    at_tree (tree_refused k w) is = w

    at_silent : Ends r n → IsSilentStatus n → Unchanged r.out
    at_silent (printed w) is = absurd (silent_never n (came_printed w.comes) is)
    at_silent (write_fault k w) is = absurd (seven_tells n is k)
    at_silent (words_refused k w) is = w.idle.out
    at_silent (problem_refused k w) is = w.idle.out
    at_silent (read_fault k w) is = w.idle.out
    at_silent (checkpoint_refused k w) is = w.idle.out
    at_silent (want_of_memory k w) is = w.out
    at_silent (range_refused k w) is = w.idle.out
    at_silent (tree_refused k w) is = w.idle.out

    at_served : Ends r n → n ≢ 6 → Unchanged r.files
    at_served (printed w) other = w.files
    at_served (words_refused k w) other = w.files
    at_served (problem_refused k w) other = w.files
    at_served (read_fault k w) other = absurd (other k)
    at_served (write_fault k w) other = w.files
    at_served (checkpoint_refused k w) other = w.files
    at_served (want_of_memory k w) other = w.files
    at_served (range_refused k w) other = w.files
    at_served (tree_refused k w) other = w.files
