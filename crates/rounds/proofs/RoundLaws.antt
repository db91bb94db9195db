-- What a round over a job comes to, from what the pool says of it.
use Rattle.std.proofs.Common.{◌≡◌, ◌≢◌, ℕ, ◌+◌, ◌-◌, ◌/◌, ◌%◌, ◌^◌, ◌<◌, ◌≤◌, true, List, [], ◌∷◌, length, slice_index, slice_index_or, sum_by, Option, Some, None, All, refl, sym, ap, ◌∙◌, subst, arith}
use mathlib.Core.Logic.{dite}
use native.Mathlib.Decide.{dec_lt}
use Rattle.std.proofs.Math.Nat.{add-mod-mod}
use Rattle.std.proofs.lemmas.List.Elements.{All-map}
use Rattle.arithmetic.specs.Fractions.{IsResidue}
use Rattle.localisation.specs.Contribution.{partial_sum}
use Rattle.localisation.specs.Agreement.{modulus_at, integral_at, NoneBad, IsLeastBad, AreResiduesOf}
use Rattle.problem.specs.Rules.{ProblemView}
use Rattle.problem.specs.Sums.{places_of, is_bad_of}
use Rattle.problem.proofs.ProblemLaws.{modulus_above}
use Rattle.checkpoint.specs.States.{AreResidues}
use Rattle.factor_table.specs.declared.table.FactorTable.{FactorTable}
use Rattle.claim_table.specs.Counts.{nothing_bad}
use Rattle.claim_table.specs.Claims.{plan}
use Rattle.worker_pool.specs.Rounds as pool
use Rattle.worker_pool.specs.Rounds.{IsCleanRound, all_clean, blocks_of}
use Rattle.sum_job.specs.declared.part.PartSum.{PartSum}
use Rattle.sum_job.specs.Parts.{JobView, KeepsJob, block_count, block_start, block_stop, least_bad_among, least_bad_of, sum_of_blocks, sum_at, IsReady, AreReduced, StandsFor, GrewByNumbers}
use Rattle.sum_job.proofs.JobLaws.{among_none_back, among_some_back}
use Rattle.sum_job.proofs.Together.{together}

-- ---- bad numbers
-- the block of a number
block_of : JobView → ℕ → ℕ
block_of job j = (j - job.first) / 64

in_round : (job : JobView) (j : ℕ) → job.first ≤ j → j < job.end → block_of job j < block_count job.first job.end
unfolding block_of
in_round job j from below = omega arith

from_start : (job : JobView) (j : ℕ) → job.first ≤ j → j < job.end → block_start job (block_of job j) ≤ j
unfolding block_of
from_start job j from below = omega arith

below_stop : (job : JobView) (j : ℕ) → job.first ≤ j → j < job.end → j < block_stop job (block_of job j)
unfolding block_of
below_stop job j from below = omega arith

pub clean_numbers : (job : JobView)
    → ((block : ℕ) → block < block_count job.first job.end → least_bad_of job block ≡ None)
    → NoneBad (is_bad_of job.problem) job.first job.end
clean_numbers job h j from below =
    let block = block_of job j in
    let start = from_start job j from below in
    let stop = below_stop job j from below in
    among_none_back (is_bad_of job.problem) (block_start job block) (block_stop job block - block_start job block)
    (h block (in_round job j from below)) j start (omega arith)

pub least_number : (job : JobView) (number : ℕ)
    → pool.IsLeastOfRound (least_bad_of job) (block_count job.first job.end) number → number < nothing_bad
    → IsLeastBad (is_bad_of job.problem) job.first job.end number
least_number job number h fits =
    let there = h.found fits in
    let block = there.0 in
    let least =
    among_some_back (is_bad_of job.problem) (block_start job block)
    (block_stop job block - block_start job block) number there.2 in
    let from = least.from in
    let below = least.below in
    let inside : number < job.end = omega arith in
    record {
      from = omega arith;
      below = inside;
      is_bad = least.is_bad;
      least = λ j a b t. met j a (omega arith) b t (least_bad_of job (block_of job j)) refl;
    }
  where
    met : (j : ℕ) → job.first ≤ j → j < job.end → j < number → is_bad_of job.problem j ≡ true → (o : Option ℕ)
        → least_bad_of job (block_of job j) ≡ o → ⊥
    met j a inside b t None e =
        let start = from_start job j a inside in
        let stop = below_stop job j a inside in
        among_none_back (is_bad_of job.problem) (block_start job (block_of job j))
        (block_stop job (block_of job j) - block_start job (block_of job j)) e j
        start (omega arith) t
    met j a inside b t (Some k) e =
        let start = from_start job j a inside in
        let first =
        among_some_back (is_bad_of job.problem) (block_start job (block_of job j))
        (block_stop job (block_of job j) - block_start job (block_of job j)) k e in
        let less = h.none_less (block_of job j) k (in_round job j a inside) e in
        first.least j start (omega arith) t

-- ---- sums
-- past the last block there is no number
pub none_anywhere : (job : JobView)
    → ((block : ℕ) → block < block_count job.first job.end → least_bad_of job block ≡ None)
    → (block : ℕ) → least_bad_of job block ≡ None
unfolding least_bad_among
none_anywhere job h block = dite (dec_lt block (block_count job.first job.end)) (λ inside. h block inside)
    (λ past. ap (least_bad_among (is_bad_of job.problem) (block_start job block))
    (let l : block_stop job block - block_start job block ≡ 0 = omega arith in l))

blocks_clean : (bs : List ℕ) → blocks_of (all_clean bs) ≡ bs
blocks_clean [] = refl
blocks_clean (b ∷ bs) = ap (λ xs. b ∷ xs) (blocks_clean bs)

part_of_clean : (job : JobView) (part : PartSum) (bs : List ℕ) → ((block : ℕ) → least_bad_of job block ≡ None)
    → StandsFor job part (all_clean bs)
    → AreResiduesOf job.problem.moduli job.problem.integrals (sum_of_blocks job bs) part.sums
part_of_clean job part bs none stands =
    subst (λ xs. AreResiduesOf job.problem.moduli job.problem.integrals (sum_of_blocks job xs) part.sums)
    (blocks_clean bs)
    (stands.sums (record {
      seen = All-map (λ (q : ℕ × ℕ). q.1 ≡ nothing_bad) (λ b. (b, nothing_bad)) bs (λ k d lt. refl);
      none_bad = All-map (λ (q : ℕ × ℕ). least_bad_of job q.0 ≡ None) (λ b. (b, nothing_bad)) bs (λ k d lt. none _);
    }))

pub round_residues : (job : JobView) (workers : ℕ) (owners : List ℕ) (parts after : List PartSum) → KeepsJob job
    → job.first ≤ job.end
    → ((block : ℕ) → least_bad_of job block ≡ None) → All (λ part. StandsFor job part []) parts → length parts ≡ workers
    → length after ≡ workers
    → IsCleanRound (StandsFor job) (plan (block_count job.first job.end) workers) owners parts after → (place : ℕ)
    → place < places_of job.problem
    → IsResidue (modulus_at job.problem.moduli place)
    (partial_sum job.problem.weights job.problem.shape job.first job.end (integral_at job.problem.moduli job.problem.integrals place))
    (sum_by (sum_at place) after % modulus_at job.problem.moduli place)
round_residues job workers owners parts after rules order none empty many long clean place within =
    together job place (modulus_at job.problem.moduli place)
    (integral_at job.problem.moduli job.problem.integrals place) workers owners clean.blocks after
    (modulus_above job.problem rules place) order long clean.legal
    (λ worker d lt. (part_of_clean job (slice_index_or after worker d) (slice_index_or clean.blocks worker []) none
    (clean.grown worker d lt [] (empty worker d (omega arith)))).each place within)

pub round_grew : (job : JobView) (workers : ℕ) (owners : List ℕ) (parts after : List PartSum) (old new : List ℕ)
    → KeepsJob job → job.first ≤ job.end
    → ((block : ℕ) → least_bad_of job block ≡ None) → All (λ part. StandsFor job part []) parts → length parts ≡ workers
    → length after ≡ workers
    → IsCleanRound (StandsFor job) (plan (block_count job.first job.end) workers) owners parts after
    → ((place : ℕ) → place < places_of job.problem
    → slice_index new place
    ≡ (slice_index old place + sum_by (sum_at place) after) % modulus_at job.problem.moduli place)
    → GrewByNumbers job.problem job.first job.end old new
round_grew job workers owners parts after old new rules order none empty many long clean added place within = record {
  value = sum_by (sum_at place) after % modulus_at job.problem.moduli place;
  is_residue = round_residues job workers owners parts after rules order none empty many long clean place within;
  sum = added place within
      ∙ sym (add-mod-mod (slice_index old place) (sum_by (sum_at place) after) (modulus_at job.problem.moduli place));
}

pub reduced_residues : (p : ProblemView) (old new : List ℕ) → AreResidues p old → length new ≡ length old
    → AreReduced p new → AreResidues p new
reduced_residues p old new was same reduced = record {
  one_each = same ∙ was.one_each;
  below = λ place lt. reduced place (let e = was.one_each in omega arith);
}

pub residues_reduced : (p : ProblemView) (residues : List ℕ) → AreResidues p residues → AreReduced p residues
residues_reduced p residues h place within = h.below place (let e = h.one_each in omega arith)

-- ---- from the pool's words to those of a round
abbrev pub job_of : ProblemView → FactorTable → ℕ → ℕ → JobView
job_of p t first end = record { problem = p; table = t; first = first; end = end }

pub least_of_range : (job : JobView) (p : ProblemView) (t : FactorTable) (first end blocks number : ℕ)
    → job ≡ job_of p t first end → blocks ≡ block_count job.first job.end
    → pool.IsLeastOfRound (least_bad_of job) blocks number → number ≢ nothing_bad → number < 2 ^ 64
    → IsLeastBad (is_bad_of p) first end number
least_of_range job p t first end blocks number e b h apart fits =
    subst (λ (j : JobView). IsLeastBad (is_bad_of j.problem) j.first j.end number) e
    (least_number job number (subst (λ n. pool.IsLeastOfRound (least_bad_of job) n number) b h) (less number apart fits))
  where
    less : (n : ℕ) → n ≢ nothing_bad → n < 2 ^ 64 → n < nothing_bad
    less n ne lt = grind arith

pub round_is_clean : (job : JobView) (p : ProblemView) (t : FactorTable) (first end blocks number : ℕ) (owners : List ℕ) (parts after : List PartSum) (old new : List ℕ)
    → job ≡ job_of p t first end → blocks ≡ block_count job.first job.end → KeepsJob job → first < end
    → pool.IsLeastOfRound (least_bad_of job) blocks number → number ≡ nothing_bad
    → All (λ part. IsReady job part × StandsFor job part []) parts → length after ≡ length parts
    → IsCleanRound (StandsFor job) (plan blocks (length parts)) owners parts after
    → AreResidues p old → length new ≡ length old → AreReduced p new
    → ((place : ℕ) → place < places_of p → slice_index new place ≡ (slice_index old place + sum_by (sum_at place) after) % modulus_at p.moduli place)
    → NoneBad (is_bad_of p) first end × AreResidues p new × GrewByNumbers p first end old new
round_is_clean job p t first end blocks number owners parts after old new e b rules order least none empty long clean was same reduced added =
    let no_bad : (block : ℕ) → block < block_count job.first job.end → least_bad_of job block ≡ None =
    (subst (λ n. pool.IsLeastOfRound (least_bad_of job) n number) b least).clean none in
    let is_first = ap (λ (j : JobView). j.first) e in
    let is_end = ap (λ (j : JobView). j.end) e in (
      subst (λ (j : JobView). NoneBad (is_bad_of j.problem) j.first j.end) e (clean_numbers job no_bad),
      reduced_residues p old new was same reduced,
      subst (λ (j : JobView). GrewByNumbers j.problem j.first j.end old new) e
          (round_grew job (length parts) owners parts after old new rules (omega arith) (none_anywhere job no_bad) (λ k d lt. (empty k d lt).1) refl long
          (subst (λ n. IsCleanRound (StandsFor job) (plan n (length parts)) owners parts after) b clean)
          (λ place within. subst (λ (q : ProblemView). slice_index new place ≡ (slice_index old place + sum_by (sum_at place) after) % modulus_at q.moduli place)
          (sym (ap (λ (j : JobView). j.problem) e))
          (added place (subst (λ (j : JobView). place < places_of j.problem) e within)))),
    )
