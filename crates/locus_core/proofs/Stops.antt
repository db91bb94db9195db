-- Where a run pauses if somebody asks for a stop.
use Rattle.std.proofs.Common.{◌≡◌, ◌⊎◌, ℕ, inl, inr, ◌+◌, List, Option, Some, None, IfSome, IsSome, refl, sym, ◌∙◌, arith, ⊎_elim}
use Rattle.std.proofs.lemmas.Bool.{false≢true, cases_lt}
use Rattle.command_line.specs.Requests.{Request}
use Rattle.locus_core.specs.Words.{AsksFor}
use Rattle.locus_core.specs.Outside.{Change, FilesState, StopperState, Unchanged, HasStopped}
use Rattle.locus_core.specs.Begins.{Beginning, Begins, by_run, by_resume, by_soak}
use Rattle.locus_core.specs.Comes.{Comes, summed, made, ranked, unranked, listed, RunsRounds, IsAnswer, done, paused, no_inverse, stop_file_of}
use Rattle.locus_core.specs.Ends.{Run, Ends, printed, words_refused, problem_refused, read_fault, write_fault, checkpoint_refused, want_of_memory, range_refused, tree_refused}
use Rattle.locus_core.specs.Headline.{HasStopFile, HeedsStops}

-- the stop file of a plan is the one that the words name
plan_stop : (files : Change FilesState) (request : Request) (b : Beginning) → Begins files request b → b.plan.stop_file ≡ stop_file_of request
plan_stop files _ _ (by_run s bytes p file reads) = refl
plan_stop files _ _ (by_resume s bytes state file is of) = refl
plan_stop files _ _ (by_soak number workers) = refl

record IsNamed (stopper : Change StopperState) (o : Option (List ℕ)) : Type 0 where
  name : List ℕ
  is : o ≡ Some name
  stopped : HasStopped stopper name

named : (stopper : Change StopperState) (o : Option (List ℕ)) → IsSome o × IfSome o (λ name. HasStopped stopper name) → IsNamed stopper o
named stopper (Some name) (s, h) = record { name = name; is = refl; stopped = h }
named stopper None (s, h) = absurd (false≢true s)

asked_for : (r : Run) (request : Request) (o : Option (List ℕ)) → AsksFor r.words request → o ≡ stop_file_of request
    → IsSome o × IfSome o (λ name. HasStopped r.stopper name) → HasStopFile r
asked_for r request o asks same h =
    let n = named r.stopper o h in
    record { request = request; words = asks; name = n.name; named = sym same ∙ n.is; stopped = n.stopped }

-- a sum was stopped only if it paused
by_answer : (r : Run) (request : Request) (b : Beginning) {o : _} {n : ℕ} {text : List ℕ} → AsksFor r.words request → Begins r.files request b
    → RunsRounds b r.stopper r.shares o → IsAnswer b o n text → Unchanged r.stopper ⊎ (HasStopFile r × (n ≡ 5))
by_answer r request b asks begins sums (done residues fractions are) = inl (sums.kept (λ early. early))
by_answer r request b asks begins sums (no_inverse number index) = inl (sums.kept (λ early. early))
by_answer r request b asks begins sums (paused source next residues same) =
    ⊎_elim
    (λ early. inr (asked_for r request b.plan.stop_file asks (plan_stop r.files request b begins) (sums.stopped early), refl))
    (λ late. inl (sums.kept (λ early. omega (arith, early, late))))
    (cases_lt next (b.sum.next + b.plan.budget))

by_comes : (r : Run) {request : Request} {n : ℕ} {text : List ℕ} → AsksFor r.words request → Comes r.files r.stopper r.shares request n text
    → Unchanged r.stopper ⊎ (HasStopFile r × (n ≡ 5))
by_comes r asks (summed request b outcome n text begins sums answer) = by_answer r request b asks begins sums answer
by_comes r asks (made number text reads none still) = inl still
by_comes r asks (ranked name text p g file decorated has none still) = inl still
by_comes r asks (unranked name p number file below none still) = inl still
by_comes r asks (listed name low high workers p file range shares still) = inl still

pub stops : (r : Run) (n : ℕ) → Ends r n → HeedsStops r n
stops r n (printed w) = ⊎_elim (λ still. inl still) (λ s. inr (s.0, inl s.1)) (by_comes r w.words w.comes)
stops r n (write_fault seven w) = ⊎_elim (λ still. inl still) (λ s. inr (s.0, inr (inl seven))) (by_comes r w.words w.comes)
stops r n (want_of_memory nine w) =
    ⊎_elim (λ still. inl still) (λ h. inr (asked_for r w.request (stop_file_of w.request) w.words refl h, inr (inr nine))) w.stopper
stops r n (words_refused k w) = inl w.idle.stopper
stops r n (problem_refused k w) = inl w.idle.stopper
stops r n (read_fault k w) = inl w.idle.stopper
stops r n (checkpoint_refused k w) = inl w.idle.stopper
stops r n (range_refused k w) = inl w.idle.stopper
stops r n (tree_refused k w) = inl w.idle.stopper
