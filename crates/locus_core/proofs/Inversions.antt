-- What is known of a sum that began: by its request, and by what its file holds.
use Rattle.std.proofs.Common.{◌≡◌, ◌≢◌, ℕ, Bool, true, false, List, Option, Some, None, Ok, Err, IfSome, IsSome, refl, sym, ap, ap₂, ◌∙◌, subst, ◌⊎◌, inl, inr}
use Rattle.std.proofs.lemmas.Bool.{false≢true}
use Rattle.std.proofs.lemmas.Option.{same_Some}
use Rattle.locus_io.specs.Content.{NamedFiles, file_of}
use Rattle.problem.specs.Rules.{ProblemView}
use Rattle.problem_toml.specs.Reading.{reading}
use Rattle.problem_toml.specs.declared.error.ProblemError.{ProblemError}
use Rattle.checkpoint.specs.States.{StateView, IsState}
use Rattle.checkpoint.specs.Texts.{IsTextOf}
use Rattle.checkpoint.specs.Refusals.{IsCheckpointRefusal}
use Rattle.checkpoint.specs.declared.error.CheckpointError.{CheckpointError}
use Rattle.checkpoint.proofs.ReadingLaws.{state_is_read, refusal_is_read}
use Rattle.command_line.specs.Requests.{Request, Sum, run, resume, make, soak, trees, rank, unrank}
use Rattle.command_line.specs.declared.table.Commands.TheVariants.{Built}
use Rattle.command_line.proofs.Consequences.{one_request}
use Rattle.locus_core.specs.Words.{AsksFor}
use Rattle.locus_core.specs.Outside.{Change, FilesState, Holds}
use Rattle.locus_core.specs.Begins.{Beginning, Begins, by_run, by_resume, by_soak, of_text, of_state, of_number, plan_of}
use Rattle.locus_core.specs.Comes.{HoldsProblem, IsOutOfRange, file_of_request, problem_file_of}
use Rattle.locus_core.specs.Ends.{Run}
use Rattle.locus_core.specs.Headline.{AsksOf}

-- the words ask for one thing
pub same_request : (r : Run) (a b : Request) → AsksFor r.words a → AsksFor r.words b → a ≡ b
same_request r a b = one_request Built r.words a b

-- the bytes of a file that are told
pub told_bytes : (files : Change FilesState) (told : NamedFiles) (name bytes : List ℕ) → files.before.content ≡ Some told → Holds files name bytes
    → file_of name told ≡ Some bytes
told_bytes files told name bytes is h = subst (λ c. IfSome c (λ told. file_of name told ≡ Some bytes)) is h

-- two readings of the file that is asked for have the same bytes
pub same_bytes : (files : Change FilesState) (told : NamedFiles) (a b first second : List ℕ) → files.before.content ≡ Some told → a ≡ b
    → file_of a told ≡ Some first → Holds files b second → first ≡ second
same_bytes files told a b first second is same f h =
    let g = told_bytes files told b second is h in
    same_Some first second (sym f ∙ ap (λ name. file_of name told) same ∙ g)

-- ---- requests that differ
abbrev pub kind_of : Request → ℕ
kind_of (run s) = 0
kind_of (resume s) = 1
kind_of (make number) = 2
kind_of (soak number workers) = 3
kind_of (rank name text) = 4
kind_of (unrank name number) = 5
kind_of (trees name low high workers) = 6
kind_of _ = 7

pub differ : (a b : Request) → a ≡ b → kind_of a ≢ kind_of b → ⊥
differ a b e h = h (ap kind_of e)

pub same_file : (a b : Request) (x y : List ℕ) → a ≡ b → file_of_request a ≡ Some x → file_of_request b ≡ Some y → x ≡ y
same_file a b x y same e f = same_Some x y (sym e ∙ ap file_of_request same ∙ f)

pub run_not_resume : (s t : Sum) → run s ≡ resume t → ⊥
run_not_resume s t e = let n = ap kind_of e in cc

pub run_not_make : (s : Sum) (number : ℕ) → run s ≡ make number → ⊥
run_not_make s number e = let n = ap kind_of e in cc

pub resume_not_make : (s : Sum) (number : ℕ) → resume s ≡ make number → ⊥
resume_not_make s number e = let n = ap kind_of e in cc

-- a problem is asked for by the name of its file
pub file_of_problem : (request : Request) (name : List ℕ) → problem_file_of request ≡ Some name → file_of_request request ≡ Some name
file_of_problem (run s) name e = e
file_of_problem (trees file low high workers) name e = e
file_of_problem (rank file text) name e = e
file_of_problem (unrank file number) name e = e
file_of_problem _ name e = absurd (let f : ⊥ = cc in f)

-- ---- requests for another text than that of a sum
-- for one that needs no workers
abbrev pub AsksAlone : Request → Type 0
AsksAlone request = ((number : ℕ) × (request ≡ make number)) ⊎ ((name text : List ℕ) × (request ≡ rank name text))
    ⊎ ((name : List ℕ) × (number : ℕ) × (request ≡ unrank name number))

abbrev pub AsksText : Request → Type 0
AsksText request = ((name : List ℕ) × (low high workers : ℕ) × (request ≡ trees name low high workers)) ⊎ AsksAlone request

abbrev sums : Request → Bool
sums (run s) = true
sums (resume s) = true
sums (soak number workers) = true
sums _ = false

text_sums_nothing : (request : Request) → AsksText request → sums request ≡ false
text_sums_nothing request (inl (name, low, high, workers, e)) = ap sums e
text_sums_nothing request (inr (inl (number, e))) = ap sums e
text_sums_nothing request (inr (inr (inl (name, text, e)))) = ap sums e
text_sums_nothing request (inr (inr (inr (name, number, e)))) = ap sums e

pub alone_lists_nothing : (name : List ℕ) (low high workers : ℕ) → AsksAlone (trees name low high workers) → ⊥
alone_lists_nothing name low high workers (inl (k, e)) = differ (trees name low high workers) (make k) e (λ x. cc)
alone_lists_nothing name low high workers (inr (inl (other, text, e))) = differ (trees name low high workers) (rank other text) e (λ x. cc)
alone_lists_nothing name low high workers (inr (inr (other, k, e))) = differ (trees name low high workers) (unrank other k) e (λ x. cc)

-- numbers out of range are asked for
pub out_of_range_asks : (p : ProblemView) (request : Request) → IsOutOfRange p request → AsksText request
out_of_range_asks p (trees name low high workers) h = inl (name, low, high, workers, refl)
out_of_range_asks p (unrank name number) h = inr (inr (inr (name, number, refl)))
out_of_range_asks p _ h = absurd h

pub resume_is_sum : (s : Sum) → AsksText (resume s) → ⊥
resume_is_sum s asks = false≢true (sym (text_sums_nothing (resume s) asks))

begun_sums : (files : Change FilesState) (request : Request) (b : Beginning) → Begins files request b → sums request ≡ true
begun_sums files _ _ (by_run s bytes p file reads) = refl
begun_sums files _ _ (by_resume s bytes state file is of) = refl
begun_sums files _ _ (by_soak number workers) = refl

pub text_begins_nothing : (files : Change FilesState) (request : Request) (b : Beginning) → Begins files request b → AsksText request → ⊥
text_begins_nothing files request b begins asks =
    false≢true (sym (text_sums_nothing request asks) ∙ begun_sums files request b begins)

-- ---- how a sum began
-- the problem of the file that is asked for
pub record ReadsProblem (files : Change FilesState) (name : List ℕ) : Type 0 where
  pub bytes : List ℕ
  pub problem : ProblemView
  pub file : Holds files name bytes
  pub reads : reading bytes ≡ Ok problem

pub begun_of_problem : (files : Change FilesState) (request : Request) (b : Beginning) (name : List ℕ) → Begins files request b
    → problem_file_of request ≡ Some name → ReadsProblem files name
begun_of_problem files _ _ name (by_run s bytes p file reads) e =
    record { bytes = bytes; problem = p; file = subst (λ x. Holds files x bytes) (same_Some s.file name e) file; reads = reads }
begun_of_problem files _ _ name (by_resume s bytes state file is of) e = absurd (let f : ⊥ = cc in f)
begun_of_problem files _ _ name (by_soak number workers) e = absurd (let f : ⊥ = cc in f)

-- the file that is asked for has some bytes
pub begun_of_file : (files : Change FilesState) (request : Request) (b : Beginning) (name : List ℕ) → Begins files request b
    → file_of_request request ≡ Some name → (bytes : List ℕ) × Holds files name bytes
begun_of_file files _ _ name (by_run s bytes p file reads) e = (bytes, subst (λ x. Holds files x bytes) (same_Some s.file name e) file)
begun_of_file files _ _ name (by_resume s bytes state file is of) e =
    (bytes, subst (λ x. Holds files x bytes) (same_Some s.file name e) file)
begun_of_file files _ _ name (by_soak number workers) e = absurd (let f : ⊥ = cc in f)

pub record BegunByRun (files : Change FilesState) (s : Sum) (b : Beginning) : Type 0 where
  pub bytes : List ℕ
  pub problem : ProblemView
  pub file : Holds files s.file bytes
  pub reads : reading bytes ≡ Ok problem
  pub is : b ≡ of_text bytes problem (plan_of s)

pub begun_by_run : (files : Change FilesState) (r : Request) (s : Sum) (b : Beginning) → Begins files r b → r ≡ run s → BegunByRun files s b
begun_by_run files _ s _ (by_run t bytes p file reads) e =
    subst (λ (x : Sum). BegunByRun files x (of_text bytes p (plan_of t))) (same_sum t s e)
    (record { bytes = bytes; problem = p; file = file; reads = reads; is = refl })
  where
    sum_in : Request → Sum → Sum
    sum_in (run x) other = x
    sum_in _ other = other

    same_sum : (x y : Sum) → run x ≡ run y → x ≡ y
    same_sum x y e = ap (λ q. sum_in q x) e
begun_by_run files _ s _ (by_resume t bytes state file is of) e = absurd (run_not_resume s t (sym e))
begun_by_run files _ s _ (by_soak number workers) e = absurd (let n = ap kind_of e in let f : ⊥ = cc in f)

pub record BegunByResume (files : Change FilesState) (s : Sum) (b : Beginning) : Type 0 where
  pub bytes : List ℕ
  pub state : StateView
  pub file : Holds files s.file bytes
  pub is_state : IsState state
  pub text : IsTextOf state bytes
  pub is : b ≡ of_state state (plan_of s)

pub begun_by_resume : (files : Change FilesState) (r : Request) (s : Sum) (b : Beginning) → Begins files r b → r ≡ resume s → BegunByResume files s b
begun_by_resume files _ s _ (by_resume t bytes state file is of) e =
    subst (λ (x : Sum). BegunByResume files x (of_state state (plan_of t))) (same_sum t s e)
    (record { bytes = bytes; state = state; file = file; is_state = is; text = of; is = refl })
  where
    sum_in : Request → Sum → Sum
    sum_in (resume x) other = x
    sum_in _ other = other

    same_sum : (x y : Sum) → resume x ≡ resume y → x ≡ y
    same_sum x y e = ap (λ q. sum_in q x) e
begun_by_resume files _ s _ (by_run t bytes p file reads) e = absurd (run_not_resume t s e)
begun_by_resume files _ s _ (by_soak number workers) e = absurd (let n = ap kind_of e in let f : ⊥ = cc in f)

-- ---- what bytes cannot both be
pub not_both_read : (bytes : List ℕ) (p : ProblemView) (error : ProblemError) → reading bytes ≡ Ok p → reading bytes ≡ Err error → ⊥
not_both_read bytes p error a b = let c = sym a ∙ b in cc

pub not_both_states : (bytes : List ℕ) (state : StateView) (error : CheckpointError) → IsState state → IsTextOf state bytes → IsCheckpointRefusal bytes error → ⊥
not_both_states bytes state error is of refused =
    let c = sym (state_is_read bytes state is of) ∙ refusal_is_read bytes error refused in cc

pub same_state : (bytes : List ℕ) (a b : StateView) → IsState a → IsTextOf a bytes → IsState b → IsTextOf b bytes → a ≡ b
same_state bytes a b is of js og = let c = sym (state_is_read bytes a is of) ∙ state_is_read bytes b js og in cc

pub begun_by_soak : (files : Change FilesState) (r : Request) (number workers : ℕ) (b : Beginning) → Begins files r b → r ≡ soak number workers
    → b ≡ of_number number workers
begun_by_soak files _ number workers _ (by_run t bytes p file reads) e = absurd (let n = ap kind_of e in let f : ⊥ = cc in f)
begun_by_soak files _ number workers _ (by_resume t bytes state file is of) e = absurd (let n = ap kind_of e in let f : ⊥ = cc in f)
begun_by_soak files _ number workers _ (by_soak k w) e =
    ap₂ of_number (ap number_in e) (ap workers_of e)
  where
    number_in : Request → ℕ
    number_in (soak k w) = k
    number_in _ = 0

    workers_of : Request → ℕ
    workers_of (soak k w) = w
    workers_of _ = 0

-- ---- one beginning
-- files that tell, or a request for no file
pub same_beginning : (files : Change FilesState) (request : Request) (a b : Beginning)
    → IsSome files.before.content ⊎ (file_of_request request ≡ None) → Begins files request a → Begins files request b → a ≡ b
same_beginning files _ _ b (inr none) (by_run s bytes p file reads) other = absurd (let f : ⊥ = cc in f)
same_beginning files _ _ b (inr none) (by_resume s bytes state file is of) other = absurd (let f : ⊥ = cc in f)
same_beginning files _ _ b known (by_soak number workers) other = sym (begun_by_soak files _ number workers b other refl)
same_beginning files _ _ b (inl told) (by_run s bytes p file reads) other = by_content files.before.content refl told
  where
    by_content : (c : Option NamedFiles) → files.before.content ≡ c → IsSome c → of_text bytes p (plan_of s) ≡ b
    by_content None is some = absurd (false≢true some)
    by_content (Some told) is some =
        let h = begun_by_run files (run s) s b other refl in
        let same = same_bytes files told s.file s.file bytes h.bytes is refl (told_bytes files told s.file bytes is file) h.file in
        let problems : Ok p ≡ Ok h.problem = sym reads ∙ ap reading same ∙ h.reads in
        let problem : p ≡ h.problem = cc in
        ap₂ (λ x y. of_text x y (plan_of s)) same problem ∙ sym h.is
same_beginning files _ _ b (inl told) (by_resume s bytes state file is_state of) other = by_content files.before.content refl told
  where
    by_content : (c : Option NamedFiles) → files.before.content ≡ c → IsSome c → of_state state (plan_of s) ≡ b
    by_content None is some = absurd (false≢true some)
    by_content (Some told) is some =
        let h = begun_by_resume files (resume s) s b other refl in
        let same = same_bytes files told s.file s.file bytes h.bytes is refl (told_bytes files told s.file bytes is file) h.file in
        let states = same_state bytes state h.state is_state of h.is_state (subst (IsTextOf h.state) (sym same) h.text) in
        ap (λ x. of_state x (plan_of s)) states ∙ sym h.is

-- the file that is asked for writes one problem
pub one_problem : (r : Run) (told : NamedFiles) (request : Request) (bytes name : List ℕ) (p q : ProblemView) → r.files.before.content ≡ Some told
    → AsksOf r told request bytes → file_of_request request ≡ Some name → reading bytes ≡ Ok p → HoldsProblem r.files name q → q ≡ p
one_problem r told request bytes name p q is asks named reads h =
    let same = same_file request request asks.name name refl asks.asked named in
    let b : bytes ≡ h.bytes = same_bytes r.files told asks.name name bytes h.bytes is same asks.file h.file in
    let both : Ok q ≡ Ok p = sym h.reads ∙ ap reading (sym b) ∙ reads in
    cc
