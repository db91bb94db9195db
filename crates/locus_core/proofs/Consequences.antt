-- What follows from how a run ends: which statuses there are, and when each comes. The words ask for one thing, and the
-- files hold one file of a name, so what an end says of its request and its bytes is said of those of a clause.
use Rattle.std.specs.List.{list_all}
use Rattle.std.proofs.Common.{◌≡◌, ◌≢◌, ◌↔◌, ◌⊎◌, ℕ, inl, inr, ◌==◌, Bool, true, false, is_some, List, Option, Some, None, Result, Ok, IsErr, IsSome, IfSome, refl, sym, ap, ◌∙◌, subst, arith, if◌then◌else◌}
use Rattle.std.proofs.lemmas.Bool.{false≢true}
use Rattle.std.proofs.lemmas.Option.{same_Some}
use Rattle.recover_fraction.specs.declared.recovery.Fraction.{Fraction}
use Rattle.locus_io.specs.Content.{NamedFiles, file_of}
use Rattle.problem.specs.Rules.{ProblemView}
use Rattle.problem_toml.specs.Reading.{reading}
use Rattle.problem_toml.specs.declared.error.ProblemError.{ProblemError}
use Rattle.problem_toml.specs.Generator.{generated_problem}
use Rattle.report.specs.Report.{done_status}
use Rattle.rounds.specs.declared.progress.Outcome.{Outcome}
use Rattle.command_line.specs.Requests.{Request, Sum, resume, make, trees, rank, unrank}
use Rattle.checkpoint.specs.Texts.{IsTextOf}
use Rattle.locus_core.specs.Words.{AsksFor, AskNothing}
use Rattle.locus_core.specs.Outside.{Change, FilesState, StopperState, Holds, TakesText}
use Rattle.locus_core.specs.Begins.{Beginning, Begins}
use Rattle.locus_core.specs.Comes.{Comes, summed, made, ranked, unranked, listed, RunsRounds, IsAnswer, done, paused, no_inverse, IsOutOfRange, file_of_request, problem_file_of}
use Rattle.locus_core.specs.Ends.{Run, Ends, printed, words_refused, problem_refused, read_fault, write_fault, checkpoint_refused, want_of_memory, range_refused, tree_refused}
use Rattle.locus_core.specs.Headline.{IsDoneStatus, IsPrintedStatus, IsStatus, AsksOf, IsNoCheckpoint, Accepts, NeedsItsFile, Makes, MakesProblem}
use Rattle.locus_core.proofs.Inversions.{same_request, same_bytes, same_file, differ, file_of_problem, AsksText, text_begins_nothing, resume_is_sum, ReadsProblem, begun_of_problem, begun_of_file, begun_by_resume, not_both_states}

-- ---- which statuses there are
pub done_is : (found : List (Option Fraction)) → IsDoneStatus (done_status found)
done_is found = by_all (list_all is_some found)
  where
    by_all : (all : Bool) → IsDoneStatus (if all then 0 else 1)
    by_all true = inl refl
    by_all false = inr refl

answer_is : (b : Beginning) (outcome : Outcome) (n : ℕ) (text : List ℕ) → IsAnswer b outcome n text → IsPrintedStatus n
answer_is b _ _ _ (done residues fractions are) = inl (done_is fractions)
answer_is b _ _ _ (paused source next residues is) = inr (inr refl)
answer_is b _ _ _ (no_inverse number modulus) = inr (inl refl)

-- what a request came to: a sum, or another text
pub record CameBySum (files : Change FilesState) (stopper : Change StopperState) (shares : List ℕ) (request : Request) (n : ℕ) (text : List ℕ) : Type 0 where
  pub beginning : Beginning
  pub outcome : Outcome
  pub begins : Begins files request beginning
  pub sums : RunsRounds beginning stopper shares outcome
  pub answer : IsAnswer beginning outcome n text

pub record CameByText (request : Request) (n : ℕ) : Type 0 where
  pub asked : AsksText request
  pub zero : n ≡ 0

pub came : {files : Change FilesState} {stopper : Change StopperState} {shares : List ℕ} {request : Request} {n : ℕ} {text : List ℕ}
    → Comes files stopper shares request n text → CameBySum files stopper shares request n text ⊎ CameByText request n
came (summed request b outcome n text begins sums answer) =
    inl (record { beginning = b; outcome = outcome; begins = begins; sums = sums; answer = answer })
came (made number text reads none still) = inr (record { asked = inr (inl (number, refl)); zero = refl })
came (ranked name text p g file decorated has none still) = inr (record { asked = inr (inr (inl (name, text, refl))); zero = refl })
came (unranked name p number file below none still) = inr (record { asked = inr (inr (inr (name, number, refl))); zero = refl })
came (listed name low high workers p file range shares still) =
    inr (record { asked = inl (name, low, high, workers, refl); zero = refl })

pub came_printed : {files : Change FilesState} {stopper : Change StopperState} {shares : List ℕ} {request : Request} {n : ℕ} {text : List ℕ}
    → Comes files stopper shares request n text → IsPrintedStatus n
came_printed (summed request b outcome n text begins sums answer) = answer_is b outcome n text answer
came_printed (made number text reads none still) = inl (inl refl)
came_printed (ranked name text p g file decorated has none still) = inl (inl refl)
came_printed (unranked name p number file below none still) = inl (inl refl)
came_printed (listed name low high workers p file range shares still) = inl (inl refl)

-- 1 for the statuses at which a whole text is printed
abbrev printed_code : ℕ → ℕ
printed_code n = if n == 0 then 1 else (if n == 1 then 1 else (if n == 4 then 1 else (if n == 5 then 1 else 0)))

printed_one : (n : ℕ) → IsPrintedStatus n → printed_code n ≡ 1
printed_one n (inl (inl e)) = ap printed_code e
printed_one n (inl (inr e)) = ap printed_code e
printed_one n (inr (inl e)) = ap printed_code e
printed_one n (inr (inr e)) = ap printed_code e

pub never : (n m : ℕ) → IsPrintedStatus n → n ≡ m → printed_code m ≡ 0 → ⊥
never n m p e zero = let one = printed_one n p in let same = ap printed_code e in cc

pub known : (r : Run) (n : ℕ) → Ends r n → IsStatus n
known r n (printed p) = inl (came_printed p.comes)
known r n (words_refused is e) = inr (inl is)
known r n (problem_refused is e) = inr (inr (inl is))
known r n (read_fault is e) = inr (inr (inr (inl is)))
known r n (write_fault is e) = inr (inr (inr (inr (inl is))))
known r n (checkpoint_refused is e) = inr (inr (inr (inr (inr (inl is)))))
known r n (want_of_memory is e) = inr (inr (inr (inr (inr (inr (inl is))))))
known r n (range_refused is e) = inr (inr (inr (inr (inr (inr (inr (inl is)))))))
known r n (tree_refused is e) = inr (inr (inr (inr (inr (inr (inr (inr is)))))))

-- ---- the words
pub words : (r : Run) (n : ℕ) → Ends r n → (n ≡ 2) ↔ AskNothing r.words
words r n e = (λ is. asks_nothing e is, λ none. is_two e none)
  where
    asks_nothing : Ends r n → n ≡ 2 → AskNothing r.words
    asks_nothing (printed p) is = absurd (never n 2 (came_printed p.comes) is refl)
    asks_nothing (words_refused two e) is = e.words
    asks_nothing (problem_refused three e) is = absurd (omega (arith, three, is))
    asks_nothing (read_fault six e) is = absurd (omega (arith, six, is))
    asks_nothing (write_fault seven e) is = absurd (omega (arith, seven, is))
    asks_nothing (checkpoint_refused eight e) is = absurd (omega (arith, eight, is))
    asks_nothing (want_of_memory nine e) is = absurd (omega (arith, nine, is))
    asks_nothing (range_refused ten e) is = absurd (omega (arith, ten, is))
    asks_nothing (tree_refused eleven e) is = absurd (omega (arith, eleven, is))

    is_two : Ends r n → AskNothing r.words → n ≡ 2
    is_two (printed p) none = absurd (none p.request p.words)
    is_two (words_refused is e) none = is
    is_two (problem_refused is e) none = absurd (none e.request e.words)
    is_two (read_fault is e) none = absurd (none e.request e.words)
    is_two (write_fault is e) none = absurd (none e.request e.words)
    is_two (checkpoint_refused is e) none = absurd (none (resume e.sum) e.words)
    is_two (want_of_memory is e) none = absurd (none e.request e.words)
    is_two (range_refused is e) none = absurd (none e.request e.words)
    is_two (tree_refused is e) none = absurd (none (rank e.name e.text) e.words)

-- ---- what the bytes of a file decide
-- what holds for files that tell what they hold
pub if_told : (c : Option NamedFiles) (P : NamedFiles → Type 0) → ((told : NamedFiles) → c ≡ Some told → P told) → IfSome c P
if_told None P f = tt
if_told (Some told) P f = f told refl

-- what came of a problem that was asked for: its file writes one
pub came_of_problem : {files : Change FilesState} {stopper : Change StopperState} {shares : List ℕ} {request : Request} {n : ℕ} {text : List ℕ} (name : List ℕ)
    → Comes files stopper shares request n text → problem_file_of request ≡ Some name → ReadsProblem files name
came_of_problem {files} name (summed request b outcome n text begins sums answer) e = begun_of_problem files request b name begins e
came_of_problem name (made number text reads none still) e = absurd (let f : ⊥ = cc in f)
came_of_problem {files} name (ranked file text p g h decorated has none still) e =
    subst (ReadsProblem files) (same_Some file name e) (record { bytes = h.bytes; problem = p; file = h.file; reads = h.reads })
came_of_problem {files} name (unranked file p number h below none still) e =
    subst (ReadsProblem files) (same_Some file name e) (record { bytes = h.bytes; problem = p; file = h.file; reads = h.reads })
came_of_problem {files} name (listed file low high workers p h range shares still) e =
    subst (ReadsProblem files) (same_Some file name e) (record { bytes = h.bytes; problem = p; file = h.file; reads = h.reads })

pub is_no_error : (r : Result ProblemView ProblemError) (p : ProblemView) → r ≡ Ok p → IsErr r → ⊥
is_no_error r p e err = let f = subst IsErr e err in cc

-- a problem is asked for by a name
problem_named : (request : Request) (name : List ℕ) → IsSome (problem_file_of request) → file_of_request request ≡ Some name
    → problem_file_of request ≡ Some name
problem_named request name some asked = by_file (problem_file_of request) refl some
  where
    by_file : (o : Option (List ℕ)) → problem_file_of request ≡ o → IsSome o → problem_file_of request ≡ Some name
    by_file None e is = absurd (false≢true is)
    by_file (Some other) e is =
        e ∙ ap Some (same_Some other name (sym (file_of_problem request other e) ∙ asked))

-- the bytes that are told are those that were read as a problem
told_reads : (r : Run) (told : NamedFiles) (request : Request) (bytes : List ℕ) → r.files.before.content ≡ Some told → AsksOf r told request bytes
    → (name : List ℕ) → problem_file_of request ≡ Some name → ReadsProblem r.files name → (p : ProblemView) × (reading bytes ≡ Ok p)
told_reads r told request bytes is asks name named h =
    let same = same_file request request asks.name name refl asks.asked (file_of_problem request name named) in
    let b = same_bytes r.files told asks.name name bytes h.bytes is same asks.file h.file in
    (h.problem, ap reading b ∙ h.reads)

not_refused : (n : ℕ) (bytes : List ℕ) → (p : ProblemView) × (reading bytes ≡ Ok p) → n ≢ 3 → (n ≡ 3) ↔ IsErr (reading bytes)
not_refused n bytes (p, reads) other = (λ three. absurd (other three), λ err. absurd (is_no_error (reading bytes) p reads err))

pub accepts_problem : (r : Run) (n : ℕ) → Ends r n → (told : NamedFiles) → r.files.before.content ≡ Some told → (request : Request) (bytes : List ℕ)
    → n ≢ 6 → n ≢ 9 → IsSome (problem_file_of request) → AsksOf r told request bytes → (n ≡ 3) ↔ IsErr (reading bytes)
accepts_problem r n e told is request bytes six nine some asks = by_end e
  where
    named : problem_file_of request ≡ Some asks.name
    named = problem_named request asks.name some asks.asked

    read_by : (other : Request) → other ≡ request → (problem_file_of other ≡ Some asks.name → ReadsProblem r.files asks.name) → n ≢ 3
        → (n ≡ 3) ↔ IsErr (reading bytes)
    read_by other same h = not_refused n bytes (told_reads r told request bytes is asks asks.name named (h (ap problem_file_of same ∙ named)))

    by_end : Ends r n → (n ≡ 3) ↔ IsErr (reading bytes)
    by_end (printed p) =
        read_by p.request (same_request r p.request request p.words asks.words) (came_of_problem asks.name p.comes)
        (λ three. never n 3 (came_printed p.comes) three refl)
    by_end (write_fault seven w) =
        read_by w.request (same_request r w.request request w.words asks.words) (came_of_problem asks.name w.comes)
        (λ three. omega (arith, three, seven))
    by_end (words_refused two w) = absurd (w.words request asks.words)
    by_end (read_fault fault w) = absurd (six fault)
    by_end (want_of_memory memory w) = absurd (nine memory)
    by_end (checkpoint_refused eight w) =
        let none : problem_file_of (resume w.sum) ≡ Some asks.name = ap problem_file_of (same_request r (resume w.sum) request w.words asks.words) ∙ named in
        absurd (let f : ⊥ = cc in f)
    by_end (range_refused ten w) =
        read_by w.request (same_request r w.request request w.words asks.words)
        (λ e. subst (ReadsProblem r.files) (same_Some w.name asks.name (sym w.asked ∙ e))
        (record { bytes = w.file.bytes; problem = w.problem; file = w.file.file; reads = w.file.reads }))
        (λ three. omega (arith, three, ten))
    by_end (tree_refused eleven w) =
        read_by (rank w.name w.text) (same_request r (rank w.name w.text) request w.words asks.words)
        (λ e. subst (ReadsProblem r.files) (same_Some w.name asks.name e)
        (record { bytes = w.file.bytes; problem = w.problem; file = w.file.file; reads = w.file.reads }))
        (λ three. omega (arith, three, eleven))
    by_end (problem_refused three w) =
        let name =
        same_file request w.request asks.name w.name (same_request r request w.request asks.words w.words) asks.asked
        (file_of_problem w.request w.name w.asked) in
        let b = same_bytes r.files told asks.name w.name bytes w.bytes is name asks.file w.file in
        (λ _. subst IsErr (sym (ap reading b ∙ w.refused)) refl, λ _. three)

-- a sum that came of the file of a `resume`: its bytes are the text of a state
resume_reads : (r : Run) (told : NamedFiles) (s : Sum) (bytes : List ℕ) {request : Request} {n : ℕ} {text : List ℕ} → r.files.before.content ≡ Some told
    → AsksOf r told (resume s) bytes → request ≡ resume s → Comes r.files r.stopper r.shares request n text → IsNoCheckpoint bytes → ⊥
resume_reads r told s bytes {request} {n} {text} is asks same comes none = by (came comes)
  where
    by : CameBySum r.files r.stopper r.shares request n text ⊎ CameByText request n → ⊥
    by (inl c) =
        let h = begun_by_resume r.files request s c.beginning c.begins same in
        let name = same_file (resume s) (resume s) asks.name s.file refl asks.asked refl in
        let b = same_bytes r.files told asks.name s.file bytes h.bytes is name asks.file h.file in
        none h.state h.is_state (subst (IsTextOf h.state) (sym b) h.text)
    by (inr c) = resume_is_sum s (subst AsksText same c.asked)

accepts_resume : (r : Run) (n : ℕ) → Ends r n → (told : NamedFiles) → r.files.before.content ≡ Some told → (s : Sum) (bytes : List ℕ) → n ≢ 6 → n ≢ 9
    → AsksOf r told (resume s) bytes → (n ≡ 8) ↔ IsNoCheckpoint bytes
accepts_resume r n (printed p) told is s bytes six nine asks =
    let same = same_request r p.request (resume s) p.words asks.words in
    (λ eight. absurd (never n 8 (came_printed p.comes) eight refl), λ none. absurd (resume_reads r told s bytes is asks same p.comes none))
accepts_resume r n (write_fault seven w) told is s bytes six nine asks =
    let same = same_request r w.request (resume s) w.words asks.words in
    (λ eight. absurd (omega (arith, eight, seven)), λ none. absurd (resume_reads r told s bytes is asks same w.comes none))
accepts_resume r n (words_refused two w) told is s bytes six nine asks = absurd (w.words (resume s) asks.words)
accepts_resume r n (read_fault fault w) told is s bytes six nine asks = absurd (six fault)
accepts_resume r n (want_of_memory memory w) told is s bytes six nine asks = absurd (nine memory)
accepts_resume r n (problem_refused three w) told is s bytes six nine asks =
    let named : problem_file_of (resume s) ≡ Some w.name = ap problem_file_of (same_request r (resume s) w.request asks.words w.words) ∙ w.asked in
    absurd (let f : ⊥ = cc in f)
accepts_resume r n (range_refused ten w) told is s bytes six nine asks =
    absurd (subst (IsOutOfRange w.problem) (same_request r w.request (resume s) w.words asks.words) w.out_of_range)
accepts_resume r n (tree_refused eleven w) told is s bytes six nine asks =
    absurd (differ (rank w.name w.text) (resume s) (same_request r (rank w.name w.text) (resume s) w.words asks.words) (λ x. cc))
accepts_resume r n (checkpoint_refused eight w) told is s bytes six nine asks =
    let name = same_file (resume s) (resume w.sum) asks.name w.sum.file (same_request r (resume s) (resume w.sum) asks.words w.words) asks.asked refl in
    let b = same_bytes r.files told asks.name w.sum.file bytes w.bytes is name asks.file w.file in
    (λ _. λ state is_state of. not_both_states w.bytes state w.error is_state (subst (IsTextOf state) b of) w.refused, λ _. eight)

pub accepted : (r : Run) (n : ℕ) → Ends r n → Accepts r n
accepted r n e = if_told r.files.before.content _ (λ told is request s bytes six nine.
    (λ some asks. accepts_problem r n e told is request bytes six nine some asks, λ asks. accepts_resume r n e told is s bytes six nine asks))

-- ---- a file that is not there
-- what came of a file that was asked for
came_of_file : {files : Change FilesState} {stopper : Change StopperState} {shares : List ℕ} {request : Request} {n : ℕ} {text : List ℕ} (name : List ℕ)
    → Comes files stopper shares request n text → file_of_request request ≡ Some name → (bytes : List ℕ) × Holds files name bytes
came_of_file {files} name (summed request b outcome n text begins sums answer) e = begun_of_file files request b name begins e
came_of_file name (made number text reads none still) e = absurd (let f : ⊥ = cc in f)
came_of_file {files} name (ranked file text p g h decorated has none still) e =
    (h.bytes, subst (λ x. Holds files x h.bytes) (same_Some file name e) h.file)
came_of_file {files} name (unranked file p number h below none still) e =
    (h.bytes, subst (λ x. Holds files x h.bytes) (same_Some file name e) h.file)
came_of_file {files} name (listed file low high workers p h range shares still) e =
    (h.bytes, subst (λ x. Holds files x h.bytes) (same_Some file name e) h.file)

pub absent : (r : Run) (n : ℕ) → Ends r n → NeedsItsFile r n
absent r n e = if_told r.files.before.content _ (λ told is request name asks named none. by_end told is request name asks named none e)
  where
    not_there : (told : NamedFiles) (name other bytes : List ℕ) → r.files.before.content ≡ Some told → file_of name told ≡ None → name ≡ other
        → Holds r.files other bytes → (n ≡ 6) ⊎ (n ≡ 9)
    not_there told name other bytes is none same h =
        let f : file_of other told ≡ Some bytes = subst (λ c. IfSome c (λ told. file_of other told ≡ Some bytes)) is h in
        let g = ap (λ x. file_of x told) same in
        absurd (let x : ⊥ = cc in x)

    by_comes : (told : NamedFiles) (request : Request) (name : List ℕ) {asked : Request} {m : ℕ} {text : List ℕ} → r.files.before.content ≡ Some told
        → asked ≡ request → file_of_request request ≡ Some name → file_of name told ≡ None
        → Comes r.files r.stopper r.shares asked m text → (n ≡ 6) ⊎ (n ≡ 9)
    by_comes told request name is same named none comes =
        let (bytes, held) = came_of_file name comes (ap file_of_request same ∙ named) in not_there told name name bytes is none refl held

    by_end : (told : NamedFiles) → r.files.before.content ≡ Some told → (request : Request) (name : List ℕ) → AsksFor r.words request
        → file_of_request request ≡ Some name → file_of name told ≡ None → Ends r n → (n ≡ 6) ⊎ (n ≡ 9)
    by_end told is request name asks named none (printed p) =
        by_comes told request name is (same_request r p.request request p.words asks) named none p.comes
    by_end told is request name asks named none (write_fault seven w) =
        by_comes told request name is (same_request r w.request request w.words asks) named none w.comes
    by_end told is request name asks named none (words_refused two w) = absurd (w.words request asks)
    by_end told is request name asks named none (read_fault six w) = inl six
    by_end told is request name asks named none (want_of_memory nine w) = inr nine
    by_end told is request name asks named none (problem_refused three w) =
        not_there told name w.name w.bytes is none
        (same_file request w.request name w.name (same_request r request w.request asks w.words) named (file_of_problem w.request w.name w.asked)) w.file
    by_end told is request name asks named none (range_refused ten w) =
        not_there told name w.name w.file.bytes is none
        (same_file request w.request name w.name (same_request r request w.request asks w.words) named (file_of_problem w.request w.name w.asked))
        w.file.file
    by_end told is request name asks named none (tree_refused eleven w) =
        not_there told name w.name w.file.bytes is none
        (same_file request (rank w.name w.text) name w.name (same_request r request (rank w.name w.text) asks w.words) named refl) w.file.file
    by_end told is request name asks named none (checkpoint_refused eight w) =
        not_there told name w.sum.file w.bytes is none
        (same_file request (resume w.sum) name w.sum.file (same_request r request (resume w.sum) asks w.words) named refl) w.file

-- ---- make
pub makes : (r : Run) (n : ℕ) → Ends r n → MakesProblem r n
makes r n (printed p) number asks = inl (by (same_request r p.request (make number) p.words asks) p.comes p.out)
  where
    number_in : Request → ℕ
    number_in (make k) = k
    number_in _ = 0

    same_number : (x y : ℕ) → make x ≡ make y → x ≡ y
    same_number x y e = ap number_in e

    by : {request : Request} {m : ℕ} {text : List ℕ} → request ≡ make number → Comes r.files r.stopper r.shares request m text → TakesText r.out text
        → (m ≡ 0) × Makes r number
    by same (made k text reads none still) out =
        (refl, record { text = text; reads = reads ∙ ap (λ k. Ok (generated_problem k)) (same_number k number same); out = out })
    by same (summed request b outcome m text begins sums answer) out =
        absurd (text_begins_nothing r.files request b begins (inr (inl (number, same))))
    by same (ranked name text p g file decorated has none still) out = absurd (differ (rank name text) (make number) same (λ x. cc))
    by same (unranked name p k file below none still) out = absurd (differ (unrank name k) (make number) same (λ x. cc))
    by same (listed name low high workers p file range shares still) out =
        absurd (differ (trees name low high workers) (make number) same (λ x. cc))
makes r n (write_fault is w) number asks = inr (inl (is, w.out.fault))
makes r n (words_refused is w) number asks = absurd (w.words (make number) asks)
makes r n (problem_refused is w) number asks =
    let named : problem_file_of (make number) ≡ Some w.name = ap problem_file_of (same_request r (make number) w.request asks w.words) ∙ w.asked in
    absurd (let x : ⊥ = cc in x)
makes r n (checkpoint_refused is w) number asks =
    absurd (differ (resume w.sum) (make number) (same_request r (resume w.sum) (make number) w.words asks) (λ x. cc))
makes r n (range_refused is w) number asks =
    absurd (subst (IsOutOfRange w.problem) (same_request r w.request (make number) w.words asks) w.out_of_range)
makes r n (tree_refused is w) number asks =
    absurd (differ (rank w.name w.text) (make number) (same_request r (rank w.name w.text) (make number) w.words asks) (λ x. cc))
makes r n (read_fault is w) number asks =
    let named : file_of_request (make number) ≡ Some w.name = ap file_of_request (sym (same_request r w.request (make number) w.words asks)) ∙ w.asked in
    absurd (let x : ⊥ = cc in x)
makes r n (want_of_memory is w) number asks = inr (inr is)
