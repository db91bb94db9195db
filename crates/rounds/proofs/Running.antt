-- Rounds that were run without a bad number, and what they come to.
use Rattle.std.proofs.Common.{◌≡◌, ◌≢◌, ℕ, zero, suc, ◌+◌, ◌-◌, ◌*◌, ◌^◌, ◌<◌, ◌≤◌, ◌==◌, All, Bool, true, false, if◌then◌else◌, List, ◌++◌, length, take, drop, min, replicate, sum, Option, Some, None, refl, sym, ap, ap₂, ◌∙◌, subst, arith, ⊎_elim, eqb-true, eq-eqb}
use Rattle.std.proofs.lemmas.Bool.{cases_eq}
use Rattle.std.proofs.lemmas.List.{length-replicate}
use Rattle.std.proofs.lemmas.List.Sums.{get_or-le-sum_by, sum_by-cons}
use Rattle.problem.specs.Rules.{KeepsRules}
use Rattle.problem.specs.Sums.{count_of, is_bad_of}
use Rattle.checkpoint.specs.States.{AreResidues}
use Rattle.decorated_tree.proofs.Counts.{limits}
use Rattle.localisation.specs.Agreement.{NoneBad, IsLeastBad}
use Rattle.localisation.proofs.AllNumbers.{residues_of_all}
use Rattle.worker_pool.proofs.Ends.{whole_again}
use Rattle.sum_job.specs.Parts.{block_count}
use Rattle.rounds.specs.Rounds.{budget_end, reached, blocks_of_rounds, AreRounds}
use Rattle.rounds.specs.Outcomes.{SumView, IsSummed, IsRoundSum, IsOutcome, IsOfProblem, IsProgress, KeepsTruth, ended}
use Rattle.rounds.specs.declared.round.BadTree.{BadTree}
use Rattle.rounds.specs.declared.progress.Progress.{Progress}
use Rattle.locus_io.specs.Causes.{Stayed}
use Rattle.rounds.specs.declared.progress.Outcome.{Outcome}
use Rattle.rounds.specs.declared.progress.Outcome.TheVariants.{Done, Paused, NoInverse}
use Rattle.rounds.proofs.Summed.{nothing_summed, summed_more, stays_true}

abbrev pub end_of : SumView → ℕ → ℕ
end_of s budget = budget_end (count_of s.problem) s.next budget

-- some rounds were run without a bad number
pub record IsRunning (s : SumView) (budget at : ℕ) (sums shares : List ℕ) : Type 0 where
  pub rounds : ℕ
  pub run : AreRounds s.next (end_of s budget) rounds
  pub is_at : at ≡ reached s.next (end_of s budget) rounds
  pub summed : IsSummed s at sums
  pub blocks : sum shares ≡ blocks_of_rounds s.next (end_of s budget) rounds

pub starts : (s : SumView) (budget : ℕ) (shares : List ℕ) → KeepsRules s.problem → s.next ≤ count_of s.problem
    → AreResidues s.problem s.residues
    → sum shares ≡ 0 → IsRunning s budget s.next s.residues shares
starts s budget shares rules most residues none = record {
  rounds = 0;
  run = λ round lt. absurd (omega arith);
  is_at = omega arith;
  summed = nothing_summed s rules residues;
  blocks = none;
}

-- ---- one more round
run_more : (s : SumView) (budget at : ℕ) (sums shares : List ℕ) → at < end_of s budget
    → (r : IsRunning s budget at sums shares)
    → AreRounds s.next (end_of s budget) (suc r.rounds)
run_more s budget at sums shares inside r = λ round lt.
    ⊎_elim
    (λ same. subst (λ k. reached s.next (end_of s budget) k < end_of s budget) same (subst (λ n. n < end_of s budget) r.is_at inside))
    (λ other. r.run round (less round lt other)) (cases_eq r.rounds round)
  where
    less : (round : ℕ) → round < suc r.rounds → (r.rounds ≡ round → ⊥) → round < r.rounds
    less round lt apart = grind arith

there : (s : SumView) (budget at stop : ℕ) (sums shares : List ℕ) → at < end_of s budget
    → stop ≡ at + min 65536 (end_of s budget - at)
    → (r : IsRunning s budget at sums shares) → stop ≡ reached s.next (end_of s budget) (suc r.rounds)
there s budget at stop sums shares inside is r = let here = r.is_at in omega arith

blocks_more : (s : SumView) (budget at stop : ℕ) (sums shares more : List ℕ) → at < end_of s budget
    → stop ≡ at + min 65536 (end_of s budget - at)
    → (r : IsRunning s budget at sums shares) → sum more ≡ sum shares + block_count at stop
    → sum more ≡ blocks_of_rounds s.next (end_of s budget) (suc r.rounds)
blocks_more s budget at stop sums shares more inside is r blocks =
    blocks ∙ ap₂ (λ a b. a + b) r.blocks (ap₂ block_count r.is_at (there s budget at stop sums shares inside is r))

-- without a bad number
pub goes_on : (s : SumView) (budget at stop : ℕ) (sums new shares more : List ℕ) → KeepsRules s.problem → s.next ≤ at
    → at < end_of s budget
    → stop ≡ at + min 65536 (end_of s budget - at) → IsRunning s budget at sums shares
    → IsRoundSum s.problem at stop sums new None
    → sum more ≡ sum shares + block_count at stop → IsRunning s budget stop new more
goes_on s budget at stop sums new shares more rules from inside is r round blocks = record {
  rounds = suc r.rounds;
  run = run_more s budget at sums shares inside r;
  is_at = there s budget at stop sums shares inside is r;
  summed = summed_more s at stop sums new rules from (omega arith) r.summed round.0 round.1 round.2;
  blocks = blocks_more s budget at stop sums shares more inside is r blocks;
}

-- with one
pub ends_bad : (s : SumView) (budget workers at stop : ℕ) (sums old new shares more : List ℕ) (bad : BadTree)
    → at < end_of s budget
    → stop ≡ at + min 65536 (end_of s budget - at) → IsRunning s budget at sums shares
    → IsRoundSum s.problem at stop old new (Some bad)
    → sum more ≡ sum shares + block_count at stop → length more ≡ workers
    → IsProgress s budget workers (record { outcome = NoInverse bad.number bad.modulus; shares = more })
ends_bad s budget workers at stop sums old new shares more bad inside is r round blocks many = record {
  rounds = suc r.rounds;
  outcome = record {
    round = r.rounds;
    last = refl;
    rounds = run_more s budget at sums shares inside r;
    earlier = subst (λ n. NoneBad (is_bad_of s.problem) s.next n) r.is_at r.summed.none_bad;
    least =
        subst
        (λ n. IsLeastBad (is_bad_of s.problem) n (reached s.next (end_of s budget) (suc r.rounds)) bad.number) r.is_at
        (subst (λ n. IsLeastBad (is_bad_of s.problem) at n bad.number) (there s budget at stop sums shares inside is r) round.0);
    first = round.1;
  };
  one_each = many;
  blocks = blocks_more s budget at stop sums shares more inside is r blocks;
}

-- ---- the shares stay small
few_rounds : (next end k : ℕ) → AreRounds next end k → end ≤ next + 2 ^ 40 → k ≤ 16777217
few_rounds next end zero run few = omega arith
few_rounds next end (suc k) run few = let last = run k (omega arith) in omega arith

few_blocks : (next end k : ℕ) → blocks_of_rounds next end k ≤ 1024 * k
few_blocks next end zero = omega arith
few_blocks next end (suc k) =
    let before = few_blocks next end k in
    let here : block_count (reached next end k) (reached next end (suc k)) ≤ 1024 = omega arith in
    omega arith

pub shares_fit : (s : SumView) (budget at : ℕ) (sums shares : List ℕ) → budget ≤ 2 ^ 40
    → IsRunning s budget at sums shares
    → All (λ share. share ≤ 2 ^ 62) shares
shares_fit s budget at sums shares few r k d lt =
    let share = get_or-le-sum_by (λ (x : ℕ). x) shares k d lt in
    let blocks = few_blocks s.next (end_of s budget) r.rounds in
    let rounds = few_rounds s.next (end_of s budget) r.rounds r.run (omega arith) in
    let e = r.blocks in
    omega arith

-- what they come to
pub comes_to : (s : SumView) (budget count at : ℕ) (sums shares : List ℕ) → count ≡ count_of s.problem → at ≤ count
    → (at ≢ count → s.next < at)
    → (r : IsRunning s budget at sums shares) → IsOutcome s budget r.rounds (ended count at sums)
comes_to s budget count at sums shares is most later r = cases (at == count) refl
  where
    not_same : (at == count) ≡ false → at ≢ count
    not_same f e = clash (sym f ∙ eq-eqb at count e)
      where
        clash : false ≡ true → ⊥
        clash p = cc

    cases : (b : Bool) → (at == count) ≡ b → IsOutcome s budget r.rounds (if b then Done sums else Paused at sums)
    cases true t =
        let e : at ≡ count = eqb-true at count t in
        record { rounds = r.run; last = sym r.is_at ∙ e ∙ is; summed = subst (λ n. IsSummed s n sums) (e ∙ is) r.summed }
    cases false f =
        let apart = not_same f in
        let more = later apart in
        let here = r.is_at in
        record { some = omega arith; rounds = r.run; at = here; left = omega arith; summed = r.summed }

-- true sums stay true
pub keeps_truth : (s : SumView) (budget k : ℕ) (o : Outcome) → KeepsRules s.problem → s.next ≤ count_of s.problem
    → IsOutcome s budget k o → KeepsTruth s o
keeps_truth s budget k (Done residues) rules most h = λ true_sum.
    let p = s.problem in
    let l = limits p.shape.rank p.shape.degree p.shape.marks rules.shape in
    let degree = l.most_degree in
    residues_of_all p.weights p.shape p.moduli p.integrals residues (omega arith)
    (stays_true s (count_of p) residues rules most h.summed true_sum)
keeps_truth s budget k (Paused next residues) rules most h = λ true_sum.
    let some = h.some in
    let first = h.rounds 0 some in
    let at = h.at in
    stays_true s next residues rules (omega arith) h.summed true_sum
keeps_truth s budget k (NoInverse number modulus) rules most h = tt

-- ---- a call as a whole
pub ends : (s : SumView) (budget workers count at : ℕ) (sums shares : List ℕ) (o : Outcome) → o ≡ ended count at sums
    → count ≡ count_of s.problem → at ≤ count
    → (at ≢ count → s.next < at) → IsRunning s budget at sums shares → length shares ≡ workers
    → IsProgress s budget workers (record { outcome = o; shares = shares })
ends s budget workers count at sums shares o e is most later r many = record {
  rounds = r.rounds;
  outcome = subst (IsOutcome s budget r.rounds) (sym e) (comes_to s budget count at sums shares is most later r);
  one_each = many;
  blocks = r.blocks;
}

pub truth_of : (s : SumView) (budget workers : ℕ) (p : Progress) → KeepsRules s.problem → s.next ≤ count_of s.problem
    → IsProgress s budget workers p
    → KeepsTruth s p.outcome
truth_of s budget workers p rules most progress =
    keeps_truth s budget progress.rounds p.outcome rules most progress.outcome

pub of_problem : (s : SumView) (budget k : ℕ) (o : Outcome) → IsOutcome s budget k o → IsOfProblem s.problem o
of_problem s budget k (Done residues) h = h.summed.are_residues
of_problem s budget k (Paused next residues) h = let left = h.left in (omega arith, h.summed.are_residues)
of_problem s budget k (NoInverse number modulus) h = let below = h.least.below in (omega arith, h.first.place)

pub no_shares : (n : ℕ) → sum (replicate n 0) ≡ 0
no_shares zero = refl
no_shares (suc n) = let e = sum_by-cons (λ (x : ℕ). x) 0 (replicate n 0) in let rest = no_shares n in omega arith

pub stayed_on : {a b c : ℕ} {x y z : Option (List ℕ)} → Stayed a b x y → Stayed b c y z → Stayed a c x z
stayed_on p q = record { count = q.count ∙ p.count; name = q.name ∙ p.name }

-- no tree is left, so no round is run
pub ends_at_once : (s : SumView) (budget workers : ℕ) (residues shares : List ℕ) → KeepsRules s.problem
    → s.next ≡ count_of s.problem
    → AreResidues s.problem s.residues → residues ≡ s.residues → shares ≡ replicate workers 0
    → IsProgress s budget workers (record { outcome = Done residues; shares = shares })
ends_at_once s budget workers residues shares rules last are same none = record {
  rounds = 0;
  outcome = record {
    rounds = λ round lt. absurd (omega arith);
    last = omega arith;
    summed = subst (λ xs. IsSummed s (count_of s.problem) xs) (sym same)
        (subst (λ n. IsSummed s n s.residues) last (nothing_summed s rules are));
  };
  one_each = ap length none ∙ length-replicate {A = ℕ} workers 0;
  blocks = ap sum none ∙ no_shares workers;
}

-- ---- the code's words
step_is : (s : SumView) (budget end at step : ℕ) → end ≡ end_of s budget → step ≡ min 65536 (end - at)
    → at + step ≡ at + min 65536 (end_of s budget - at)
step_is s budget end at step e is = ap (λ n. at + n) (is ∙ ap (λ n. min 65536 (n - at)) e)

pub next_running : (s : SumView) (budget end at step len : ℕ) (items old new shares more : List ℕ) (found : Option BadTree)
    → KeepsRules s.problem
    → end ≡ end_of s budget → s.next ≤ at → at < end → step ≡ min 65536 (end - at) → IsRunning s budget at items shares
    → old ≡ items → found ≡ None
    → IsRoundSum s.problem at (at + step) old new found → length new ≡ length items → len ≡ length items
    → sum more ≡ sum shares + block_count at (at + step)
    → IsRunning s budget (at + step) (take len (new ++ drop (length new) items)) more
next_running s budget end at step len items old new shares more found rules e from inside is r value none round same long blocks =
    subst (λ xs. IsRunning s budget (at + step) xs more) (sym (whole_again len items new same long))
    (goes_on s budget at (at + step) items new shares more rules from (subst (λ n. at < n) e inside) (step_is s budget end at step e is) r
    (subst (λ xs. IsRoundSum s.problem at (at + step) xs new None) value (subst (IsRoundSum s.problem at (at + step) old new) none round)) blocks)

pub bad_progress : (s : SumView) (budget workers end at step : ℕ) (sums old new shares more : List ℕ) (found : Option BadTree) (bad : BadTree)
    → end ≡ end_of s budget → at < end → step ≡ min 65536 (end - at) → IsRunning s budget at sums shares
    → found ≡ Some bad
    → IsRoundSum s.problem at (at + step) old new found → sum more ≡ sum shares + block_count at (at + step)
    → length more ≡ workers
    → IsProgress s budget workers (record { outcome = NoInverse bad.number bad.modulus; shares = more })
bad_progress s budget workers end at step sums old new shares more found bad e inside is r some round blocks many =
    ends_bad s budget workers at (at + step) sums old new shares more bad (subst (λ n. at < n) e inside)
    (step_is s budget end at step e is) r
    (subst (IsRoundSum s.problem at (at + step) old new) some round) blocks many
