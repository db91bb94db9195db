-- The status that a sum has to have, and which decorated trees a refusal says to be bad.
use Rattle.std.proofs.Common.{◌≡◌, ◌≢◌, ◌↔◌, ◌⊎◌, ℕ, inl, inr, ◌+◌, ◌<◌, true, List, Option, Some, None, IfSome, IsSome, refl, sym, ap, ◌∙◌, subst, arith, ⊎_elim}
use Rattle.std.proofs.lemmas.Bool.{false≢true, cases_lt}
use Rattle.trees.specs.TreeNumbers.{tree_of}
use Rattle.trees.proofs.TreeNumbers.{tree_of_in_all_trees}
use Rattle.localisation.specs.Agreement.{NoneBad, is_bad_number}
use Rattle.localisation.proofs.AllNumbers.{none_bad_trees, none_append}
use Rattle.decorated_tree.proofs.Counts.{limits}
use Rattle.locus_io.specs.Causes.{Rose}
use Rattle.locus_io.specs.Content.{NamedFiles}
use Rattle.problem.specs.Rules.{ProblemView, KeepsRules}
use Rattle.problem.specs.Sums.{count_of, is_bad_of, is_bad_tree_of, HasBadTree}
use Rattle.problem_toml.specs.Reading.{reading}
use Rattle.checkpoint.specs.Texts.{IsTextOf}
use Rattle.rounds.specs.Rounds.{budget_end, reached}
use Rattle.rounds.specs.Outcomes.{SumView, IsDone, IsPaused, IsNoInverse, IsTrueSum}
use Rattle.rounds.specs.declared.progress.Outcome.{Outcome}
use Rattle.command_line.specs.Requests.{Request, resume, rank}
use Rattle.locus_core.specs.Outside.{Change, StopperState, HasStopped}
use Rattle.locus_core.specs.Begins.{Beginning, Begins, IsTrueBeginning}
use Rattle.locus_core.specs.Comes.{RunsRounds, IsAnswer, done, paused, no_inverse, file_of_request, problem_file_of}
use Rattle.locus_core.specs.Ends.{Run, Ends, printed, words_refused, problem_refused, read_fault, write_fault, checkpoint_refused, want_of_memory, range_refused, tree_refused}
use Rattle.locus_core.specs.Headline.{IsDoneStatus, NamesBadTrees, end_of, IsStatusOf, IsDecided}
use Rattle.locus_core.proofs.TrueSums.{none_bad_before, true_at}
use Rattle.locus_core.proofs.Inversions.{same_request, same_bytes, told_bytes, file_of_problem, AsksText, text_begins_nothing, out_of_range_asks, begun_of_problem, begun_by_resume, not_both_read, not_both_states, same_beginning}
use Rattle.locus_core.proofs.Consequences.{done_is, came, CameBySum, CameByText}

pub small_degree : (p : ProblemView) → KeepsRules p → p.shape.degree < 11
small_degree p rules = let l = limits p.shape.rank p.shape.degree p.shape.marks rules.shape in let m = l.most_degree in omega (arith, m)

-- ---- bad trees
-- the tree of a bad number is bad
pub tree_bad : (p : ProblemView) (k : ℕ) → is_bad_of p k ≡ true → is_bad_tree_of p (tree_of p.shape k) ≡ true
unfolding is_bad_number
tree_bad p k h = h

pub below_count : (s : SumView) (budget k number modulus : ℕ) → IsNoInverse s budget k number modulus → number < count_of s.problem
below_count s budget k number modulus h = let below = h.least.below in omega (arith, below)

has_bad_tree : (s : SumView) (budget k number modulus : ℕ) → KeepsRules s.problem → IsNoInverse s budget k number modulus → HasBadTree s.problem
has_bad_tree s budget k number modulus rules h =
    let p = s.problem in (
      tree_of p.shape number,
      tree_of_in_all_trees p.shape number (small_degree p rules) (below_count s budget k number modulus h),
      tree_bad p number h.least.is_bad,
    )

pub no_bad_tree : (s : SumView) (budget k : ℕ) (residues : List ℕ) → KeepsRules s.problem → IsDone s budget k residues → IsTrueSum s → HasBadTree s.problem → ⊥
no_bad_tree s budget k residues rules d truth (g, i, bad) =
    let p = s.problem in
    none_bad_trees p.weights p.integrals p.moduli p.shape (small_degree p rules)
    (none_append (is_bad_of p) 0 s.next (count_of p) (none_bad_before s rules truth) d.summed.none_bad) g i bad

four_is : (b : Beginning) (stopper : Change StopperState) (shares : List ℕ) (outcome : Outcome) (n : ℕ) (text : List ℕ) → RunsRounds b stopper shares outcome
    → IsAnswer b outcome n text → IsTrueBeginning b → IsDoneStatus n ⊎ (n ≡ 4) → (n ≡ 4) ↔ HasBadTree b.sum.problem
four_is b stopper shares _ _ _ sums (done residues fractions are) truth is = (
  λ four. absurd (not_four (done_is fractions) four),
  λ bad. absurd (no_bad_tree b.sum b.plan.budget sums.progress.rounds residues sums.rules sums.progress.outcome (true_at b sums.rules truth) bad),
)
  where
    not_four : {k : ℕ} → IsDoneStatus k → k ≡ 4 → ⊥
    not_four (inl i) f = omega (arith, i, f)
    not_four (inr i) f = omega (arith, i, f)
four_is b stopper shares _ _ _ sums (no_inverse number index) truth is =
    (λ _. has_bad_tree b.sum b.plan.budget sums.progress.rounds number index sums.rules sums.progress.outcome, λ _. refl)
four_is b stopper shares _ _ _ sums (paused source next residues source_is) truth (inl (inl e)) = absurd (omega (arith, e))
four_is b stopper shares _ _ _ sums (paused source next residues source_is) truth (inl (inr e)) = absurd (omega (arith, e))
four_is b stopper shares _ _ _ sums (paused source next residues source_is) truth (inr e) = absurd (omega (arith, e))

no_sum_status : (n m : ℕ) → IsDoneStatus n ⊎ (n ≡ 4) → n ≡ m → m ≢ 0 → m ≢ 1 → m ≢ 4 → ⊥
no_sum_status n m (inl (inl e)) is a b c = a (sym is ∙ e)
no_sum_status n m (inl (inr e)) is a b c = b (sym is ∙ e)
no_sum_status n m (inr e) is a b c = c (sym is ∙ e)

pub bad : (r : Run) (n : ℕ) → Ends r n → NamesBadTrees r n
bad r n e status request b asks knows begins truth = by_end e
  where
    by_came : {asked : Request} {text : List ℕ} → asked ≡ request → CameBySum r.files r.stopper r.shares asked n text ⊎ CameByText asked n
        → (n ≡ 4) ↔ HasBadTree b.sum.problem
    by_came same (inl c) =
        let one = same_beginning r.files request c.beginning b knows (subst (λ x. Begins r.files x c.beginning) same c.begins) begins in
        subst (λ x. (n ≡ 4) ↔ HasBadTree x.sum.problem) one
        (four_is c.beginning r.stopper r.shares c.outcome n _ c.sums c.answer (subst IsTrueBeginning (sym one) truth) status)
    by_came same (inr c) = absurd (text_begins_nothing r.files request b begins (subst AsksText same c.asked))

    by_end : Ends r n → (n ≡ 4) ↔ HasBadTree b.sum.problem
    by_end (printed w) = by_came (same_request r w.request request w.words asks) (came w.comes)
    by_end (words_refused e w) = absurd (w.words request asks)
    by_end (problem_refused e w) = absurd (no_sum_status n 3 status e (λ x. cc) (λ x. cc) (λ x. cc))
    by_end (read_fault e w) = absurd (no_sum_status n 6 status e (λ x. cc) (λ x. cc) (λ x. cc))
    by_end (write_fault e w) = absurd (no_sum_status n 7 status e (λ x. cc) (λ x. cc) (λ x. cc))
    by_end (checkpoint_refused e w) = absurd (no_sum_status n 8 status e (λ x. cc) (λ x. cc) (λ x. cc))
    by_end (want_of_memory e w) = absurd (no_sum_status n 9 status e (λ x. cc) (λ x. cc) (λ x. cc))
    by_end (range_refused e w) = absurd (no_sum_status n 10 status e (λ x. cc) (λ x. cc) (λ x. cc))
    by_end (tree_refused e w) = absurd (no_sum_status n 11 status e (λ x. cc) (λ x. cc) (λ x. cc))

-- ---- the status of a sum that nobody stops
stopped_rose : (stopper : Change StopperState) (o : Option (List ℕ)) → IsSome o × IfSome o (λ name. HasStopped stopper name)
    → Rose stopper.before.stops stopper.after.stops
stopped_rose stopper (Some name) (s, h) = h.rose
stopped_rose stopper None (s, h) = absurd (false≢true s)

-- where a pause stands that is not early
pub paused_end : (count first budget k next : ℕ) → next ≡ reached first (budget_end count first budget) k → next < count
    → (next < first + budget → ⊥) → budget_end count first budget ≡ next
paused_end count first budget k next at left late =
    ⊎_elim (λ early. absurd (late early)) (λ reached. omega (arith, at, left, reached)) (cases_lt next (first + budget))

answered : (b : Beginning) (stopper : Change StopperState) (shares : List ℕ) (outcome : Outcome) (n : ℕ) (text : List ℕ) → RunsRounds b stopper shares outcome
    → IsAnswer b outcome n text → ¬ Rose stopper.before.stops stopper.after.stops → IsStatusOf b n
answered b stopper shares _ _ _ sums (done residues fractions are) still =
    let d : IsDone b.sum b.plan.budget sums.progress.rounds residues = sums.progress.outcome in
    let last = d.last in
    let end : end_of b ≡ count_of b.sum.problem = omega (arith, last) in
    inr (subst (λ x. NoneBad (is_bad_of b.sum.problem) b.sum.next x) (sym end) d.summed.none_bad, inr (done_is fractions, end))
answered b stopper shares _ _ _ sums (no_inverse number modulus) still =
    let h : IsNoInverse b.sum b.plan.budget sums.progress.rounds number modulus = sums.progress.outcome in
    let last = h.last in
    let started = h.rounds h.round (let l : h.round < sums.progress.rounds = omega (arith, last) in l) in
    let from = h.least.from in
    let below = h.least.below in
    inl (refl, (number, omega (arith, from, started), omega (arith, below), h.least.is_bad))
answered b stopper shares _ _ _ sums (paused source next residues source_is) still =
    let h : IsPaused b.sum b.plan.budget sums.progress.rounds next residues = sums.progress.outcome in
    let late : next < b.sum.next + b.plan.budget → ⊥ = λ early. still (stopped_rose stopper b.plan.stop_file (sums.stopped early)) in
    by_end h late
  where
    by_end : IsPaused b.sum b.plan.budget sums.progress.rounds next residues → (next < b.sum.next + b.plan.budget → ⊥) → IsStatusOf b 5
    by_end h late =
        let at = h.at in
        let left = h.left in
        let end : end_of b ≡ next = paused_end (count_of b.sum.problem) b.sum.next b.plan.budget sums.progress.rounds next at left late in
        inr (subst (λ x. NoneBad (is_bad_of b.sum.problem) b.sum.next x) (sym end) h.summed.none_bad, inl (refl, omega (arith, end, left)))

pub decided : (r : Run) (n : ℕ) → Ends r n → IsDecided r n
decided r n e served taken still request b asks knows begins = by_end e
  where
    by_came : {asked : Request} {text : List ℕ} → asked ≡ request → CameBySum r.files r.stopper r.shares asked n text ⊎ CameByText asked n
        → IsStatusOf b n ⊎ (n ≡ 9)
    by_came same (inl c) =
        let one = same_beginning r.files request c.beginning b knows (subst (λ x. Begins r.files x c.beginning) same c.begins) begins in
        inl (subst (λ x. IsStatusOf x n) one (answered c.beginning r.stopper r.shares c.outcome n _ c.sums c.answer still))
    by_came same (inr c) = absurd (text_begins_nothing r.files request b begins (subst AsksText same c.asked))

    told : IsSome r.files.before.content ⊎ (file_of_request request ≡ None) → (name : List ℕ) → file_of_request request ≡ Some name
        → (content : NamedFiles) × (r.files.before.content ≡ Some content)
    told known name named = by_content r.files.before.content refl known
      where
        by_content : (c : Option NamedFiles) → r.files.before.content ≡ c → IsSome c ⊎ (file_of_request request ≡ None)
            → (content : NamedFiles) × (c ≡ Some content)
        by_content (Some content) e known = (content, refl)
        by_content None e (inl some) = absurd (false≢true some)
        by_content None e (inr none) = let wrong = sym none ∙ named in absurd (let f : ⊥ = cc in f)

    by_end : Ends r n → IsStatusOf b n ⊎ (n ≡ 9)
    by_end (printed w) = by_came (same_request r w.request request w.words asks) (came w.comes)
    by_end (words_refused two w) = absurd (w.words request asks)
    by_end (read_fault six w) = absurd (served w.files.fault.rose)
    by_end (write_fault seven w) = absurd (taken w.out.fault)
    by_end (want_of_memory nine w) = inr nine
    by_end (range_refused ten w) =
        absurd (text_begins_nothing r.files request b begins
        (subst AsksText (same_request r w.request request w.words asks) (out_of_range_asks w.problem w.request w.out_of_range)))
    by_end (tree_refused eleven w) =
        absurd (text_begins_nothing r.files request b begins
        (inr (inr (inl (w.name, w.text, same_request r request (rank w.name w.text) asks w.words)))))
    by_end (problem_refused three w) =
        let same = same_request r request w.request asks w.words in
        let named : problem_file_of request ≡ Some w.name = ap problem_file_of same ∙ w.asked in
        let (content, is) = told knows w.name (file_of_problem request w.name named) in
        let h = begun_of_problem r.files request b w.name begins named in
        let bytes = same_bytes r.files content w.name w.name h.bytes w.bytes is refl (told_bytes r.files content w.name h.bytes is h.file) w.file in
        absurd (not_both_read h.bytes h.problem w.error h.reads (ap reading bytes ∙ w.refused))
    by_end (checkpoint_refused eight w) =
        let same = same_request r request (resume w.sum) asks w.words in
        let (content, is) = told knows w.sum.file (ap file_of_request same) in
        let h = begun_by_resume r.files request w.sum b begins same in
        let bytes = same_bytes r.files content w.sum.file w.sum.file h.bytes w.bytes is refl (told_bytes r.files content w.sum.file h.bytes is h.file) w.file in
        absurd (not_both_states w.bytes h.state w.error h.is_state (subst (IsTextOf h.state) bytes h.text) w.refused)
