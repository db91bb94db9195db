-- Lists of parts, one for each problem.
use Rattle.std.proofs.Common.{◌≡◌, ◌≢◌, ℕ, ◌+◌, ◌<◌, ◌≤◌, List, [], ◌++◌, length, get_or, set, replicate, slice_index_or, sym, ◌∙◌, subst, arith, ⊎_elim, take, IsPermutation}
use Rattle.std.proofs.lemmas.Bool.{cases_eq}
use Rattle.std.proofs.lemmas.List.{get_or-set_same, get_or-set_other, length-set, length-map, get_or-map, get_or_default}
use Rattle.std.proofs.Math.Seq.{take-append_seam}
use Rattle.claim_table.specs.Counts.{nothing_bad}
use Rattle.factor_table.specs.Seats.{IsSeatOf}
use Rattle.table_sum.specs.declared.sum.TableSum.{TableSum}
use Rattle.table_sum.specs.Sums.{problem_of, table_of}
use Rattle.sum_job.specs.declared.part.PartSum.{PartSum}
use Rattle.sum_job.specs.Parts.{IsReady, StandsFor}
use Rattle.sum_job.proofs.PartLaws.{empty_part}
use Rattle.sum_job.proofs.Orders as one
use Rattle.cross_job.specs.Cross.{CrossView, Match, job_of, AreReady, StandFor, AreSeatsOf, AreFresh, seats_of}

-- parts that worked no block, with their seats at the tables
pub empty_parts : (v : CrossView) (parts : List PartSum) → AreFresh parts → AreSeatsOf (seats_of parts) v.sums
    → AreReady v parts × StandFor v parts []
empty_parts v parts fresh seats =
    let many : length parts ≡ length v.sums = sym (length-map parts (λ (p : PartSum). p.seat)) ∙ seats.as_many in (
      record { as_many = many; each = λ i p s lt. (here i p s lt (omega arith)).0 },
      record { as_many = many; each = λ i p s lt. (here i p s lt (omega arith)).1 },
    )
  where
    here : (i : ℕ) (p : PartSum) (s : TableSum) → i < length v.sums → i < length parts
        → IsReady (job_of v (slice_index_or v.sums i s)) (slice_index_or parts i p)
        × StandsFor (job_of v (slice_index_or v.sums i s)) (slice_index_or parts i p) []
    here i p s lt within =
        empty_part (job_of v (slice_index_or v.sums i s)) (slice_index_or parts i p) (problem_of (slice_index_or v.sums i s)).rules
        (subst (λ seat. IsSeatOf seat (table_of (slice_index_or v.sums i s))) (get_or-map (λ (p : PartSum). p.seat) parts i p p.seat within)
        (seats.each i p.seat s lt))
        (fresh i p within).0 (fresh i p within).1

-- what holds of each problem and its part holds still when one part is exchanged
pub match_set : (R : PartSum → TableSum → Type 0) (parts : List PartSum) (sums : List TableSum) (i : ℕ) (new : PartSum) (sum : TableSum)
    → i < length parts → Match R parts sums → R new (slice_index_or sums i sum) → Match R (set parts i new) sums
match_set R parts sums i new sum within all here = record {
  as_many = length-set parts i new ∙ all.as_many;
  each = λ k p s lt. ⊎_elim
      (λ same. subst (λ j. R (get_or (set parts i new) j p) (get_or sums j s)) same
      (subst (λ x. R x (get_or sums i s)) (sym (get_or-set_same parts i new p within))
      (subst (R new) (get_or_default sums i sum s (subst (λ j. j < length sums) (sym same) lt)) here)))
      (λ other. let ne : k ≢ i = λ e. other (sym e) in
      subst (λ x. R x (get_or sums k s)) (sym (get_or-set_other parts i k new p ne)) (all.each k p s lt))
      (cases_eq i k);
}

-- .. and what holds of the first ones
pub set_more : (R : PartSum → TableSum → Type 0) (parts : List PartSum) (sums : List TableSum) (i : ℕ) (new : PartSum) (sum : TableSum)
    → i < length parts → i < length sums
    → ((k : ℕ) (p : PartSum) (s : TableSum) → k < i → R (slice_index_or parts k p) (slice_index_or sums k s))
    → R new (slice_index_or sums i sum)
    → (k : ℕ) (p : PartSum) (s : TableSum) → k < i + 1 → R (slice_index_or (set parts i new) k p) (slice_index_or sums k s)
set_more R parts sums i new sum inside within before here k p s lt =
    ⊎_elim
    (λ same. subst (λ j. R (get_or (set parts i new) j p) (get_or sums j s)) same
    (subst (λ x. R x (get_or sums i s)) (sym (get_or-set_same parts i new p inside))
    (subst (R new) (get_or_default sums i sum s within) here)))
    (λ other. let ne : k ≢ i = λ e. other (sym e) in
    subst (λ x. R x (get_or sums k s)) (sym (get_or-set_other parts i k new p ne)) (before k p s (omega arith)))
    (cases_eq i k)

pub set_rest : (parts initial : List PartSum) (i : ℕ) (new : PartSum)
    → ((k : ℕ) (p : PartSum) → i ≤ k → slice_index_or parts k p ≡ slice_index_or initial k p)
    → (k : ℕ) (p : PartSum) → i + 1 ≤ k → slice_index_or (set parts i new) k p ≡ slice_index_or initial k p
set_rest parts initial i new before k p lt =
    get_or-set_other parts i k new p (λ e. absurd (omega arith)) ∙ before k p (omega arith)

-- the parts that were cleared
pub fresh_more : (parts : List PartSum) (i : ℕ) (new : PartSum) → i < length parts
    → ((k : ℕ) (p : PartSum) → k < i
    → ((slice_index_or parts k p).sums ≡ replicate 64 0) × ((slice_index_or parts k p).least ≡ nothing_bad))
    → new.sums ≡ replicate 64 0 → new.least ≡ nothing_bad
    → (k : ℕ) (p : PartSum) → k < i + 1
    → ((slice_index_or (set parts i new) k p).sums ≡ replicate 64 0) × ((slice_index_or (set parts i new) k p).least ≡ nothing_bad)
fresh_more parts i new within before sums least k p lt =
    ⊎_elim
    (λ same. subst (λ j. IsFresh (get_or (set parts i new) j p)) same
    (subst IsFresh (sym (get_or-set_same parts i new p within)) (sums, least)))
    (λ other. let ne : k ≢ i = λ e. other (sym e) in
    subst IsFresh (sym (get_or-set_other parts i k new p ne)) (before k p (omega arith)))
    (cases_eq i k)
  where
    IsFresh : PartSum → Type 0
    IsFresh part = (part.sums ≡ replicate 64 0) × (part.least ≡ nothing_bad)

-- parts stand for their pairs in any order
pub any_order : (v : CrossView) (parts : List PartSum) (xs ys : List (ℕ × ℕ)) → IsPermutation xs ys → StandFor v parts xs
    → StandFor v parts ys
any_order v parts xs ys moves stand = record {
  as_many = stand.as_many;
  each = λ i p s lt. one.any_order (job_of v (slice_index_or v.sums i s)) (slice_index_or parts i p) xs ys moves (stand.each i p s lt);
}

-- the front of a list is what was written there
pub written_back : (xs ys : List PartSum) (n : ℕ) → length xs ≡ n → take n (xs ++ ys) ≡ xs
written_back xs ys n e = subst (λ k. take k (xs ++ ys) ≡ xs) e (take-append_seam xs ys)
