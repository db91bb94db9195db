-- What the last run of a chain comes to. Each run of a chain begins with true residues: the first with none, and a later one
-- with those of the checkpoint that the run before printed.
use Rattle.std.proofs.Common.{◌≡◌, ◌≢◌, ℕ, inl, inr, List, [], ◌++◌, Some, Ok, refl, sym, ap, ◌∙◌, subst}
use Rattle.std.proofs.lemmas.Option.{same_Some}
use Rattle.problem.specs.Rules.{ProblemView}
use Rattle.problem_toml.specs.Reading.{reading}
use Rattle.checkpoint.specs.Texts.{text_in}
use Rattle.report.specs.Texts.{done_text, no_inverse_text}
use Rattle.rounds.specs.Outcomes.{sum_of, IsTrueSum}
use Rattle.command_line.specs.Requests.{Request, Sum, run, resume, make, trees, rank, unrank}
use Rattle.locus_core.specs.Words.{AsksFor}
use Rattle.locus_core.specs.Outside.{TakesText}
use Rattle.locus_core.specs.Begins.{Beginning, Begins, IsTrueBeginning}
use Rattle.locus_core.specs.Comes.{IsOutOfRange, state_at, problem_file_of}
use Rattle.locus_core.specs.Ends.{Run, Ends}
use Rattle.locus_core.specs.Headline.{IsDoneStatus, SumsNothing}
use Rattle.locus_core.specs.Chains.{IsChainOfRuns, begins, resumes, PrintsKontsevichSums, NamesLeastOfAll, PausesTruly, IsAtEnd, EndsItsChains}
use Rattle.locus_core.proofs.Inversions.{same_request, same_bytes, same_file, differ, file_of_problem, run_not_resume, begun_by_run, begun_by_resume, not_both_read, not_both_states, same_state}
use Rattle.locus_core.proofs.Headline.{sums, refusal, pause, bytes}
use Rattle.locus_core.proofs.SameEnds.{same_text, Concludes, same_end}

-- a sum of the problem of the source, from true residues on
record BeginsTruly (source : List ℕ) (p : ProblemView) (b : Beginning) : Type 0 where
  same_source : b.source ≡ Some source
  same_problem : b.sum.problem ≡ p
  plain : b.heading ≡ []
  truth : IsTrueBeginning b

begins_truly : (source : List ℕ) (p : ProblemView) (r : Run) → IsChainOfRuns source r → reading source ≡ Ok p → (request : Request) (b : Beginning)
    → AsksFor r.words request → Begins r.files request b → BeginsTruly source p b
begins_truly source p _ (begins r f) reads request b asks begun =
    let h = begun_by_run r.files request f.sum b begun (same_request r request (run f.sum) asks f.words) in
    let bytes = same_bytes r.files f.told f.sum.file f.sum.file source h.bytes f.files refl f.file h.file in
    let problems : Ok h.problem ≡ Ok p = sym h.reads ∙ ap reading (sym bytes) ∙ reads in
    let problem : h.problem ≡ p = cc in
    record {
      same_source = ap (λ x. x.source) h.is ∙ ap Some (sym bytes);
      same_problem = ap (λ x. x.sum.problem) h.is ∙ problem;
      plain = ap (λ x. x.heading) h.is;
      truth = subst IsTrueBeginning (sym h.is) (inl refl);
    }
begins_truly source p _ (resumes before r text chain ends printed f) reads request b asks begun =
    let c = pause before 5 ends refl in
    let t = begins_truly source p before chain reads c.begun.request c.beginning c.begun.words c.begun.begins in
    let state = state_at c.source c.beginning c.next c.residues in
    let h = begun_by_resume r.files request f.sum b begun (same_request r request (resume f.sum) asks f.words) in
    let bytes = same_bytes r.files f.told f.sum.file f.sum.file text h.bytes f.files refl f.file h.file in
    let of : h.bytes ≡ text_in 2 state = sym bytes ∙ sym (same_text before text (text_in 2 state) printed c.out) in
    let states : state ≡ h.state = same_state h.bytes state h.state c.state (inl of) h.is_state h.text in
    record {
      same_source = ap (λ x. x.source) h.is ∙ ap (λ s. Some s.source) (sym states) ∙ sym c.same_source ∙ t.same_source;
      same_problem = ap (λ x. x.sum.problem) h.is ∙ ap (λ s. s.problem) (sym states) ∙ t.same_problem;
      plain = ap (λ x. x.heading) h.is;
      truth = subst IsTrueBeginning (sym h.is) (inr (subst (λ s. IsTrueSum (sum_of s)) states (c.truth t.truth)));
    }

-- no run of a chain is asked for anything but a sum, or is refused
asks_no_other : (source : List ℕ) (r : Run) → IsChainOfRuns source r → (other : Request) → AsksFor r.words other → ((s : Sum) → other ≢ run s)
    → ((s : Sum) → other ≢ resume s) → ⊥
asks_no_other source _ (begins r f) other asks no_run no_resume = no_run f.sum (same_request r other (run f.sum) asks f.words)
asks_no_other source _ (resumes before r text chain ends printed f) other asks no_run no_resume =
    no_resume f.sum (same_request r other (resume f.sum) asks f.words)

asks_no_number : (source : List ℕ) (r : Run) → IsChainOfRuns source r → (name text : List ℕ) → AsksFor r.words (rank name text) → ⊥
asks_no_number source r chain name text asks =
    asks_no_other source r chain (rank name text) asks (λ s e. differ (rank name text) (run s) e (λ x. cc)) (λ s e. differ (rank name text) (resume s) e (λ x. cc))

asks_no_tree : (source : List ℕ) (r : Run) → IsChainOfRuns source r → (name : List ℕ) (k : ℕ) → AsksFor r.words (unrank name k) → ⊥
asks_no_tree source r chain name k asks =
    asks_no_other source r chain (unrank name k) asks (λ s e. differ (unrank name k) (run s) e (λ x. cc)) (λ s e. differ (unrank name k) (resume s) e (λ x. cc))

sums_something : (source : List ℕ) (r : Run) → IsChainOfRuns source r → SumsNothing r → ⊥
sums_something source r chain (inl (name, low, high, workers, asks)) =
    asks_no_other source r chain (trees name low high workers) asks (λ s e. differ (trees name low high workers) (run s) e (λ x. cc))
    (λ s e. differ (trees name low high workers) (resume s) e (λ x. cc))
sums_something source r chain (inr (inl (k, asks))) =
    asks_no_other source r chain (make k) asks (λ s e. differ (make k) (run s) e (λ x. cc)) (λ s e. differ (make k) (resume s) e (λ x. cc))
sums_something source r chain (inr (inr (inl (name, text, asks)))) = asks_no_number source r chain name text asks
sums_something source r chain (inr (inr (inr (name, k, asks)))) = asks_no_tree source r chain name k asks

asks_something : (source : List ℕ) (r : Run) → IsChainOfRuns source r → ((request : Request) → ¬ AsksFor r.words request) → ⊥
asks_something source _ (begins r f) nothing = nothing (run f.sum) f.words
asks_something source _ (resumes before r text chain ends printed f) nothing = nothing (resume f.sum) f.words

problem_accepted : (source : List ℕ) (p : ProblemView) (r : Run) (n : ℕ) → Ends r n → IsChainOfRuns source r → reading source ≡ Ok p → n ≢ 3
problem_accepted source p _ n e (begins r f) reads three =
    let w = (bytes r n e).problem_refused three in
    let file =
    same_file (run f.sum) w.request f.sum.file w.name (same_request r (run f.sum) w.request f.words w.words) refl
    (file_of_problem w.request w.name w.asked) in
    let same = same_bytes r.files f.told f.sum.file w.name source w.bytes f.files file f.file w.file in
    not_both_read w.bytes p w.error (ap reading (sym same) ∙ reads) w.refused
problem_accepted source p _ n e (resumes before r text chain ends printed f) reads three =
    let w = (bytes r n e).problem_refused three in
    let named : problem_file_of (resume f.sum) ≡ Some w.name = ap problem_file_of (same_request r (resume f.sum) w.request f.words w.words) ∙ w.asked in
    let wrong : ⊥ = cc in
    wrong

checkpoint_accepted : (source : List ℕ) (r : Run) (n : ℕ) → Ends r n → IsChainOfRuns source r → n ≢ 8
checkpoint_accepted source _ n e (begins r f) eight =
    let w = (bytes r n e).checkpoint_refused eight in
    run_not_resume f.sum w.sum (same_request r (run f.sum) (resume w.sum) f.words w.words)
checkpoint_accepted source _ n e (resumes before r text chain ends printed f) eight =
    let w = (bytes r n e).checkpoint_refused eight in
    let c = pause before 5 ends refl in
    let state = state_at c.source c.beginning c.next c.residues in
    let file = ap file_in (same_request r (resume f.sum) (resume w.sum) f.words w.words) in
    let same = same_bytes r.files f.told f.sum.file w.sum.file text w.bytes f.files file f.file w.file in
    not_both_states w.bytes state w.error c.state (inl (sym same ∙ sym (same_text before text (text_in 2 state) printed c.out))) w.refused
  where
    file_in : Request → List ℕ
    file_in (resume s) = s.file
    file_in _ = []

-- what a run of a chain prints, but for what other runs print
record EndsAlone (source : List ℕ) (p : ProblemView) (r : Run) (n : ℕ) : Type 0 where
  sums : IsDoneStatus n → PrintsKontsevichSums p r n
  refusal : n ≡ 4 → NamesLeastOfAll p r
  pause : n ≡ 5 → PausesTruly source p r

alone : (r : Run) (n : ℕ) → Ends r n → (source : List ℕ) (p : ProblemView) → IsChainOfRuns source r → reading source ≡ Ok p → EndsAlone source p r n
alone r n e source p chain reads = record {
  sums = by_sums;
  refusal = by_refusal;
  pause = by_pause;
}
  where
    by_sums : IsDoneStatus n → PrintsKontsevichSums p r n
    by_sums is =
        let s = sums r n e (sums_something source r chain) is in
        let t = begins_truly source p r chain reads s.begun.request s.beginning s.begun.words s.begun.begins in
        subst (λ q. PrintsKontsevichSums q r n) t.same_problem (record {
          residues = s.residues;
          fractions = s.fractions;
          none_bad = s.none_bad t.truth;
          are_residues = s.summed.are_residues;
          sums = s.truth t.truth;
          agree = s.agree;
          found = s.found t.truth;
          status = s.status;
          out = subst (λ h. TakesText r.out (h ++ done_text s.beginning.sum.problem s.residues s.fractions)) t.plain s.out;
        })

    by_refusal : n ≡ 4 → NamesLeastOfAll p r
    by_refusal is =
        let s = refusal r n e is in
        let t = begins_truly source p r chain reads s.begun.request s.beginning s.begun.words s.begun.begins in
        subst (λ q. NamesLeastOfAll q r) t.same_problem (record {
          number = s.number;
          index = s.index;
          is = s.of_all t.truth;
          out = subst (λ h. TakesText r.out (h ++ no_inverse_text s.beginning.sum.problem s.number s.index)) t.plain s.out;
        })

    by_pause : n ≡ 5 → PausesTruly source p r
    by_pause is =
        let s = pause r n e is in
        let t = begins_truly source p r chain reads s.begun.request s.beginning s.begun.words s.begun.begins in
        record {
          state = state_at s.source s.beginning s.next s.residues;
          same_source = same_Some s.source source (sym s.same_source ∙ t.same_source);
          same_problem = t.same_problem;
          is_state = s.state;
          truth = s.truth t.truth;
          out = s.out;
        }

pub ends_chains : (r : Run) (n : ℕ) → Ends r n → EndsItsChains r n
ends_chains r n e source p chain reads = record {
  sums = mine.sums;
  refusal = mine.refusal;
  pause = mine.pause;
  same = λ other m text others_chain others_end at_end printed is.
      let theirs = alone other m others_end source p others_chain reads in
      same_end p r other n m text (at_its_end mine is) (at_its_end theirs at_end) printed;
  accepted = (
    λ two. asks_something source r chain ((bytes r n e).words_refused two).words,
    problem_accepted source p r n e chain reads,
    checkpoint_accepted source r n e chain,
    λ ten. let w = (bytes r n e).range_refused ten in
        asks_no_other source r chain w.request w.words (λ s e. subst (IsOutOfRange w.problem) e w.out_of_range)
        (λ s e. subst (IsOutOfRange w.problem) e w.out_of_range),
    λ eleven. let w = (bytes r n e).tree_refused eleven in asks_no_number source r chain w.name w.text w.words,
  );
}
  where
    mine : EndsAlone source p r n
    mine = alone r n e source p chain reads

    at_its_end : {q : Run} {k : ℕ} → EndsAlone source p q k → IsAtEnd k → Concludes p q k
    at_its_end ends (inl is) = inl (ends.sums is)
    at_its_end ends (inr four) = inr (four, ends.refusal four)
