-- What rounds come to is what a request comes to, by how the sum began.
use Rattle.std.proofs.Common.{◌≡◌, ℕ, List, [], Result, Ok, Err, IfOk, OnErr, refl, sym, ap, ◌∙◌, subst, inl}
use Rattle.std.proofs.lemmas.Result.{IfOk-weaker}
use Rattle.command_line.specs.Requests.{Request, Sum, run, resume, make, soak}
use Rattle.problem.specs.Rules.{ProblemView}
use Rattle.problem_toml.specs.Generator.{generated_problem}
use Rattle.problem_toml.specs.Reading.{reading, reading_of_any_length}
use Rattle.problem_toml.specs.declared.error.ProblemError.{ProblemError}
use Rattle.checkpoint.specs.States.{StateView, IsState, first_state, fresh_of}
use Rattle.checkpoint.specs.Texts.{IsTextOf}
use Rattle.checkpoint.specs.Refusals.{IsCheckpointRefusal}
use Rattle.checkpoint.specs.declared.error.CheckpointError.{CheckpointError}
use Rattle.report.specs.Statuses.{code_of}
use Rattle.locus_core.specs.Outside.{Change, Unchanged, FilesState, StopperState}
use Rattle.locus_core.specs.Begins.{by_run, by_resume, by_soak, of_state, of_text, of_number, plan_of}
use Rattle.locus_core.specs.Comes.{Comes, summed, made, MayHaveStopped}
use Rattle.locus_core.specs.declared.work.Printable.{Printable}
use Rattle.locus_core.specs.declared.work.Refusal.{Refusal}
use Rattle.lists.specs.declared.memory.NoMemory.{NoMemory}
use Rattle.locus_core.specs.Steps.{Loads, Continues, IsWork, as_refusal, WhyNot, problem, checkpoint, no_memory}
use Rattle.locus_core.specs.declared.work.Refusal.TheVariants as refusal
use Rattle.locus_core.proofs.Loading.{problem_read, problem_refused, checkpoint_read, checkpoint_refused}

-- the first state of a text that reads as a problem
fresh_parts : (bytes : List ℕ) (state : StateView) → fresh_of bytes ≡ Ok state
    → (p : ProblemView) × (reading bytes ≡ Ok p) × (first_state bytes p ≡ state)
unfolding fresh_of
fresh_parts bytes state e = by_reading (reading bytes) refl e
  where
    by_reading : (r : Result ProblemView ProblemError) → reading bytes ≡ r → fresh_of bytes ≡ Ok state
        → (p : ProblemView) × (reading bytes ≡ Ok p) × (first_state bytes p ≡ state)
    by_reading (Ok p) is e = (p, is, let whole : fresh_of bytes ≡ Ok (first_state bytes p) = rw is refl in cc)
    by_reading (Err error) is e = let whole : fresh_of bytes ≡ Err error = rw is refl in absurd (let f : ⊥ = cc in f)

fresh_error : (bytes : List ℕ) (error : ProblemError) → fresh_of bytes ≡ Err error → reading bytes ≡ Err error
unfolding fresh_of
fresh_error bytes error e = by_reading (reading bytes) refl e
  where
    by_reading : (r : Result ProblemView ProblemError) → reading bytes ≡ r → fresh_of bytes ≡ Err error → reading bytes ≡ Err error
    by_reading (Ok p) is e = let whole : fresh_of bytes ≡ Ok (first_state bytes p) = rw is refl in absurd (let f : ⊥ = cc in f)
    by_reading (Err other) is e =
        let whole : fresh_of bytes ≡ Err other = rw is refl in
        let same : other ≡ error = cc in
        is ∙ ap Err same

-- ---- what is done without memory is refused
pub worked : (request : Request) (files : Change FilesState) (stopper : Change StopperState) (r : Result Printable NoMemory) (result : Result Printable Refusal)
    → result ≡ as_refusal r → Unchanged files → IfOk r (λ p. Comes files stopper p.shares request (code_of p.status) p.text.items)
    → OnErr r (MayHaveStopped request stopper) → IsWork request files stopper result
worked request files stopper (Ok p) result is kept ok err = subst (IsWork request files stopper) (sym is) (kept, ok)
worked request files stopper (Err e) result is kept ok err = subst (IsWork request files stopper) (sym is) (no_memory kept err)

run_comes : (files : Change FilesState) (stopper : Change StopperState) (shares : List ℕ) (s : Sum) (got : List ℕ) (state : StateView) (status : ℕ) (text : List ℕ)
    → Loads 1048576 files s.file got → fresh_of got ≡ Ok state → Continues (of_state state (plan_of s)) stopper shares status text
    → Comes files stopper shares (run s) status text
run_comes files stopper shares s got state status text loads fresh continues =
    let (p, reads, same) = fresh_parts got state fresh in
    let c : Continues (of_text got p (plan_of s)) stopper shares status text =
    subst (λ x. Continues (of_state x (plan_of s)) stopper shares status text) (sym same) continues in
    summed (run s) (of_text got p (plan_of s)) c.outcome status text (by_run s got p (problem_read files s.file got p loads reads) reads) c.sums c.answer

pub run_refused : (files : Change FilesState) (stopper : Change StopperState) (s : Sum) (got : List ℕ) (error : ProblemError)
    → Loads 1048576 files s.file got → fresh_of got ≡ Err error → Unchanged files → Unchanged stopper → WhyNot (run s) files stopper (refusal.Problem error)
run_refused files stopper s got error loads fresh kept still =
    let (bytes, file, refused) = problem_refused files s.file got error loads (fresh_error got error fresh) in
    problem s.file bytes error refl file refused kept still

resume_comes : (files : Change FilesState) (stopper : Change StopperState) (shares : List ℕ) (s : Sum) (got : List ℕ) (state : StateView) (status : ℕ) (text : List ℕ)
    → Loads 1052672 files s.file got → IsState state → IsTextOf state got → Continues (of_state state (plan_of s)) stopper shares status text
    → Comes files stopper shares (resume s) status text
resume_comes files stopper shares s got state status text loads is of continues =
    let (bytes, file, whole) = checkpoint_read files s.file got state loads is of in
    summed (resume s) (of_state state (plan_of s)) continues.outcome status text (by_resume s bytes state file is whole) continues.sums continues.answer

pub resume_refused : (files : Change FilesState) (stopper : Change StopperState) (s : Sum) (got : List ℕ) (error : CheckpointError)
    → Loads 1052672 files s.file got → IsCheckpointRefusal got error → Unchanged files → Unchanged stopper → WhyNot (resume s) files stopper (refusal.Checkpoint error)
resume_refused files stopper s got error loads refused kept still =
    let (bytes, file, why) = checkpoint_refused files s.file got error loads refused in
    checkpoint s bytes error refl file why kept still

soak_comes : (files : Change FilesState) (stopper : Change StopperState) (shares : List ℕ) (number workers status : ℕ) (text : List ℕ)
    → Continues (of_number number workers) stopper shares status text → Comes files stopper shares (soak number workers) status text
soak_comes files stopper shares number workers status text c =
    summed (soak number workers) (of_number number workers) c.outcome status text (by_soak number workers) c.sums c.answer

pub run_works : (files : Change FilesState) (stopper : Change StopperState) (s : Sum) (got : List ℕ) (state : StateView) (r : Result Printable NoMemory) (result : Result Printable Refusal)
    → result ≡ as_refusal r → Unchanged files → Loads 1048576 files s.file got → fresh_of got ≡ Ok state
    → IfOk r (λ p. Continues (of_state state (plan_of s)) stopper p.shares (code_of p.status) p.text.items)
    → OnErr r (MayHaveStopped (run s) stopper) → IsWork (run s) files stopper result
run_works files stopper s got state r result is kept loads fresh ok err =
    worked (run s) files stopper r result is kept
    (IfOk-weaker r _ _ (λ p c. run_comes files stopper p.shares s got state (code_of p.status) p.text.items loads fresh c) ok) err

pub resume_works : (files : Change FilesState) (stopper : Change StopperState) (s : Sum) (got : List ℕ) (state : StateView) (r : Result Printable NoMemory) (result : Result Printable Refusal)
    → result ≡ as_refusal r → Unchanged files → Loads 1052672 files s.file got → IsState state → IsTextOf state got
    → IfOk r (λ p. Continues (of_state state (plan_of s)) stopper p.shares (code_of p.status) p.text.items)
    → OnErr r (MayHaveStopped (run s) stopper) → IsWork (resume s) files stopper result
resume_works files stopper s got state r result is kept loads state_is of ok err =
    worked (resume s) files stopper r result is kept
    (IfOk-weaker r _ _ (λ p c. resume_comes files stopper p.shares s got state (code_of p.status) p.text.items loads state_is of c) ok) err

pub soak_works : (files : Change FilesState) (stopper : Change StopperState) (number workers : ℕ) (r : Result Printable NoMemory) (result : Result Printable Refusal)
    → result ≡ as_refusal r → Unchanged files → IfOk r (λ p. Continues (of_number number workers) stopper p.shares (code_of p.status) p.text.items)
    → OnErr r (Unchanged stopper) → IsWork (soak number workers) files stopper result
soak_works files stopper number workers (Ok p) result is kept ok err =
    worked (soak number workers) files stopper (Ok p) result is kept (soak_comes files stopper p.shares number workers (code_of p.status) p.text.items ok) tt
soak_works files stopper number workers (Err e) result is kept ok err =
    worked (soak number workers) files stopper (Err e) result is kept tt (inl err)

pub make_works : (files : Change FilesState) (stopper : Change StopperState) (number : ℕ) (r : Result Printable NoMemory) (result : Result Printable Refusal)
    → result ≡ as_refusal r → Unchanged files → Unchanged stopper → IfOk r (λ p. code_of p.status ≡ 0)
    → IfOk r (λ p. reading_of_any_length p.text.items ≡ Ok (generated_problem number)) → IfOk r (λ p. p.shares ≡ [])
    → IsWork (make number) files stopper result
make_works files stopper number (Ok p) result is kept still status text shares =
    worked (make number) files stopper (Ok p) result is kept
    (subst (λ n. Comes files stopper p.shares (make number) n p.text.items) (sym status) (made number p.text.items text shares still)) tt
make_works files stopper number (Err e) result is kept still status text shares =
    worked (make number) files stopper (Err e) result is kept tt (inl still)
