-- What one worker comes to that runs a job alone.
use Rattle.std.proofs.Common.{◌≡◌, ◌≢◌, ℕ, zero, suc, ◌+◌, ◌-◌, ◌%◌, ◌^◌, ◌<◌, ◌≤◌, ◌==◌, ◌&&◌, nat_lt, Bool, true, false, if◌then◌else◌, List, [], ◌∷◌, ◌++◌, length, min, map, replicate, sum, slice_index, slice_index_or, sum_by, get_or, nat_le, All, IfSome, IsSome, Option, Some, None, refl, sym, ap, ap₂, ◌∙◌, subst, arith, append_assoc, eq-eqb}
use mathlib.Core.Logic.{dite}
use native.Mathlib.Decide.{dec_lt}
use Rattle.std.proofs.lemmas.List.{length-replicate}
use Rattle.std.proofs.lemmas.List.Sums.{sum_by-cons}
use Rattle.std.proofs.lemmas.Bool.Decides.{nat_tests}
use Rattle.lists.specs.Ranges.{below}
use Rattle.lists.proofs.Padding.{zeros}
use Rattle.localisation.specs.Agreement.{NoneBad, IsLeastBad, IsFirstBad, modulus_at}
use Rattle.problem.specs.Rules.{ProblemView, KeepsRules}
use Rattle.problem.specs.Sums.{count_of, places_of, is_bad_of, is_bad_modulo}
use Rattle.problem.proofs.ProblemLaws.{modulus_above}
use Rattle.checkpoint.specs.States.{AreResidues}
use Rattle.claim_table.specs.Counts.{occurrences, bit, nothing_bad}
use Rattle.claim_table.specs.Claims.{plan, IsLegal, IsShareOf}
use Rattle.claim_table.proofs.Lists.{occurrences-append, map-one}
use Rattle.worker_pool.specs.Rounds.{at_most, all_clean, IsLeastOfRound, IsCleanRound}
use Rattle.factor_table.specs.declared.table.FactorTable.{FactorTable}
use Rattle.factor_table.specs.declared.table.FactorSeat.{FactorSeat}
use Rattle.factor_table.specs.Seats.{IsSeatOf}
use Rattle.sum_job.specs.declared.part.PartSum.{PartSum}
use Rattle.sum_job.specs.Parts.{JobView, KeepsJob, block_count, block_start, block_stop, least_bad_of, StandsFor, IsReady, AreReduced, sum_at}
use Rattle.sum_job.proofs.JobLaws.{among_some_back}
use Rattle.rounds.specs.Outcomes.{SumView, IsOutcome, IsProgress, IsRoundSum, ended}
use Rattle.rounds.specs.declared.progress.Outcome.{Outcome}
use Rattle.rounds.specs.declared.progress.Outcome.TheVariants.{Done, Paused, NoInverse}
use Rattle.rounds.proofs.RoundLaws.{job_of, round_is_clean}
use Rattle.rounds.proofs.Running.{end_of, IsRunning, starts, goes_on, ends_bad, comes_to}
use Rattle.job_batch.specs.declared.alone.BadNumber.{BadNumber}
use Rattle.job_batch.specs.Ends.{start_of, IsEnd, or_nothing, IsRoundEnd, outcome_with}

-- ---- rounds
-- some rounds were run without a bad number
pub record HasRun (p : ProblemView) (at : ℕ) (sums : List ℕ) : Type 0 where
  pub shares : List ℕ
  pub running : IsRunning (start_of p) (2 ^ 40) at sums shares

-- the budget is enough for all trees
whole : (p : ProblemView) → count_of p ≤ 2 ^ 40 → end_of (start_of p) (2 ^ 40) ≡ count_of p
whole p few = omega arith

no_residues : (p : ProblemView) → KeepsRules p → AreResidues p (replicate (places_of p) 0)
no_residues p rules = record {
  one_each = length-replicate {A = ℕ} (places_of p) 0;
  below = λ place lt. omega (arith, zeros (places_of p) place, modulus_above p rules place);
}

pub begun : (p : ProblemView) → KeepsRules p → HasRun p 0 (replicate (places_of p) 0)
begun p rules = record {
  shares = [];
  running = starts (start_of p) (2 ^ 40) [] rules (omega arith) (no_residues p rules) refl;
}

pub runs_on : (p : ProblemView) (at step : ℕ) (sums new : List ℕ) → KeepsRules p → count_of p ≤ 2 ^ 40
    → at < count_of p → step ≡ min 65536 (count_of p - at)
    → HasRun p at sums → IsRoundEnd p at (at + step) sums new None → HasRun p (at + step) new
runs_on p at step sums new rules few inside is h round =
    let end = whole p few in
    let more : List ℕ = (sum h.shares + block_count at (at + step)) ∷ [] in
    record {
      shares = more;
      running = goes_on (start_of p) (2 ^ 40) at (at + step) sums new h.shares more rules (omega arith) (omega arith) (omega arith) h.running round
          (let one = sum_by-cons (λ (x : ℕ). x) (sum h.shares + block_count at (at + step)) [] in omega arith);
    }

pub ends_with : (p : ProblemView) (at step : ℕ) (sums new : List ℕ) (bad : BadNumber) → count_of p ≤ 2 ^ 40
    → at < count_of p → step ≡ min 65536 (count_of p - at)
    → HasRun p at sums → IsRoundEnd p at (at + step) sums new (Some bad)
    → IsEnd (start_of p) (NoInverse bad.number bad.modulus)
ends_with p at step sums new bad few inside is h round =
    let end = whole p few in
    let more : List ℕ = (sum h.shares + block_count at (at + step)) ∷ [] in
    let progress =
    ends_bad (start_of p) (2 ^ 40) 1 at (at + step) sums sums new h.shares more (record { number = bad.number; modulus = bad.modulus })
    (omega arith) (omega arith) h.running round
    (let one = sum_by-cons (λ (x : ℕ). x) (sum h.shares + block_count at (at + step)) [] in omega arith) refl in
    record { rounds = progress.rounds; outcome = progress.outcome }

pub ends_done : (p : ProblemView) (at : ℕ) (sums : List ℕ) → at ≡ count_of p → HasRun p at sums → IsEnd (start_of p) (Done sums)
ends_done p at sums last h =
    let s : SumView = start_of p in
    let outcome = comes_to s (2 ^ 40) (count_of p) at sums h.shares refl (omega arith) (λ apart. absurd (apart last)) h.running in
    let is : (at == count_of p) ≡ true = eq-eqb at (count_of p) last in
    record {
      rounds = h.running.rounds;
      outcome = subst (λ b. IsOutcome s (2 ^ 40) h.running.rounds (if b then Done sums else Paused at sums)) is outcome;
    }

-- ---- the blocks of a round
pub no_bad_block : (lb : ℕ → Option ℕ) (blocks : ℕ) → ((block : ℕ) → block < blocks → lb block ≡ None)
    → IsLeastOfRound lb blocks nothing_bad
no_bad_block lb blocks none = record {
  none_less = λ block bad lt e. absurd (clash (sym (none block lt) ∙ e));
  found = λ less. absurd (omega arith);
  clean = λ _. none;
}
  where
    clash : {n : ℕ} → None ≡ Some n → ⊥
    clash e = cc

-- the first block that has a bad number has the least of all
pub first_bad_block : (job : JobView) (blocks block number : ℕ) → block < blocks
    → ((b : ℕ) → b < block → least_bad_of job b ≡ None) → least_bad_of job block ≡ Some number
    → number < nothing_bad → IsLeastOfRound (least_bad_of job) blocks number
first_bad_block job blocks block number within none here fits = record {
  none_less = λ b bad lt e. at_least b bad e;
  found = λ _. (block, within, here);
  clean = λ is. absurd (omega arith);
}
  where
    least : (b bad : ℕ) → least_bad_of job b ≡ Some bad
        → IsLeastBad (is_bad_of job.problem) (block_start job b) (block_start job b + (block_stop job b - block_start job b)) bad
    least b bad e = among_some_back (is_bad_of job.problem) (block_start job b) (block_stop job b - block_start job b) bad e

    clash : {n : ℕ} → None ≡ Some n → ⊥
    clash e = cc

    same : {m n : ℕ} → Some m ≡ Some n → m ≡ n
    same e = cc

    at_least : (b bad : ℕ) → least_bad_of job b ≡ Some bad → number ≤ bad
    at_least b bad e = dite (dec_lt b block) (λ earlier. absurd (clash (sym (none b earlier) ∙ e)))
        (λ late. dite (dec_lt block b)
        (λ later. let mine = (least block number here).below in let theirs = (least b bad e).from in omega arith)
        (λ now. let is : b ≡ block = omega arith in
        let equal = same (sym here ∙ sym (ap (λ n. least_bad_of job n) is) ∙ e) in omega arith))

pub occurrences-below : (b n : ℕ) → occurrences b (below n) ≡ bit (nat_lt b n)
occurrences-below b zero = grind (arith, nat_tests)
occurrences-below b (suc n) =
    let more = occurrences-append b (below n) (n ∷ []) in
    let before = occurrences-below b n in
    let step : bit (nat_lt b n) + bit (n == b) ≡ bit (nat_lt b (suc n)) = grind (arith, nat_tests) in
    omega arith

one_owner : (blocks : ℕ) → IsLegal (plan blocks 1) (replicate blocks 0) (below blocks ∷ [])
one_owner blocks = record {
  blocks = length-replicate {A = ℕ} blocks 0;
  workers = refl;
  owned = λ b lt. omega (arith, zeros blocks b);
  shares = λ worker lt. only worker lt;
}
  where
    and_true : (t : Bool) → (t && true) ≡ t
    and_true true = refl
    and_true false = refl

    only : (worker : ℕ) → worker < 1 → IsShareOf (replicate blocks 0) worker (slice_index_or (below blocks ∷ []) worker [])
    only zero lt b = occurrences-below b blocks ∙ ap bit (sym (and_true (nat_lt b blocks)))
        ∙ ap₂ (λ n x. bit (nat_lt b n && x == 0)) (sym (length-replicate {A = ℕ} blocks 0)) (sym (zeros blocks b))
    only (suc k) lt b = absurd (omega arith)

pub alone_clean : (job : JobView) (blocks : ℕ) (before after : PartSum)
    → ((pairs : List (ℕ × ℕ)) → StandsFor job before pairs → StandsFor job after (pairs ++ all_clean (below blocks)))
    → IsCleanRound (StandsFor job) (plan blocks 1) (replicate blocks 0) (before ∷ []) (after ∷ [])
alone_clean job blocks before after stands = record {
  blocks = below blocks ∷ [];
  legal = one_owner blocks;
  grown = λ worker d lt. only worker d lt;
}
  where
    only : (worker : ℕ) (d : PartSum) → worker < 1 → (l : List (ℕ × ℕ))
        → StandsFor job (get_or (before ∷ []) worker d) l
        → StandsFor job (get_or (after ∷ []) worker d) (l ++ all_clean (get_or (below blocks ∷ []) worker []))
    only zero d lt = stands
    only (suc k) d lt = absurd (omega arith)

pub clean_more : (job : JobView) (part : PartSum) (pairs : List (ℕ × ℕ)) (n : ℕ)
    → StandsFor job part ((pairs ++ all_clean (below n)) ++ (n, nothing_bad) ∷ [])
    → StandsFor job part (pairs ++ all_clean (below (n + 1)))
clean_more job part pairs n h = subst (λ k. StandsFor job part (pairs ++ all_clean (below k))) (let l : suc n ≡ n + 1 = omega arith in l)
    (subst (StandsFor job part)
    (append_assoc pairs (all_clean (below n)) ((n, nothing_bad) ∷ [])
    ∙ ap (λ xs. pairs ++ xs) (sym (map-one (λ b. (b, nothing_bad)) (below n) n))) h)

-- nothing was seen, so each bad number is answered
pub unseen : (o : Option ℕ) → ((n : ℕ) → o ≡ Some n → n < nothing_bad) → at_most nothing_bad o ≡ o
unseen None h = refl
unseen (Some n) h = let fits = h n refl in let le : nat_le n nothing_bad ≡ true = grind (arith, nat_tests) in
    ap (λ b. if b then Some n else None) le

-- ---- the words of a round
pub seat_in : {job : JobView} {p : ProblemView} {t : FactorTable} {first end : ℕ} (seat : FactorSeat)
    → job ≡ job_of p t first end → IsSeatOf seat t → IsSeatOf seat job.table
seat_in seat e at = subst (λ t. IsSeatOf seat t) (sym (ap (λ (j : JobView). j.table) e)) at

pub seat_out : {job : JobView} {p : ProblemView} {t : FactorTable} {first end : ℕ} (seat : FactorSeat)
    → job ≡ job_of p t first end → IsSeatOf seat job.table → IsSeatOf seat t
seat_out seat e at = subst (λ t. IsSeatOf seat t) (ap (λ (j : JobView). j.table) e) at

all_one : {A : Type 0} (P : A → Type 0) (x : A) → P x → All P (x ∷ [])
all_one P x h zero d lt = h
all_one P x h (suc k) d lt = absurd (omega arith)

pub round_of_one : (job : JobView) (p : ProblemView) (t : FactorTable) (first end : ℕ) (before after : PartSum) (old new : List ℕ)
    → job ≡ job_of p t first end → KeepsJob job → first < end
    → IsLeastOfRound (least_bad_of job) (block_count job.first job.end) nothing_bad
    → IsReady job before → StandsFor job before []
    → ((pairs : List (ℕ × ℕ)) → StandsFor job before pairs
    → StandsFor job after (pairs ++ all_clean (below (block_count job.first job.end))))
    → AreResidues p old → length new ≡ length old → AreReduced p new
    → ((place : ℕ) → place < places_of p → slice_index new place ≡ (slice_index old place + slice_index after.sums place) % modulus_at p.moduli place)
    → IsRoundSum p first end old new None
round_of_one job p t first end before after old new e rules order least ready empty stands was same reduced added =
    let blocks = block_count job.first job.end in
    round_is_clean job p t first end blocks nothing_bad (replicate blocks 0) (before ∷ []) (after ∷ []) old new e refl rules order least refl
    (all_one (λ part. IsReady job part × StandsFor job part []) before (ready, empty)) refl
    (alone_clean job blocks before after stands) was same reduced
    (λ place lt. added place lt
    ∙ ap (λ n. (slice_index old place + n) % modulus_at p.moduli place)
    (let one = sum_by-cons (sum_at place) after [] in let l : slice_index after.sums place ≡ sum_by (sum_at place) (after ∷ []) = omega arith in l))
