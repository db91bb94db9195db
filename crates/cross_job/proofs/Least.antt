-- The least bad number of a block for several problems.
use Rattle.std.proofs.Common.{◌≡◌, ℕ, zero, suc, ◌+◌, ◌<◌, ◌≤◌, Bool, true, false, ◌||◌, [], ◌∷◌, length, take, slice_index_or, Option, Some, None, if◌then◌else◌, refl, sym, ap, ap₂, ◌∙◌, arith}
use Rattle.std.proofs.lemmas.Bool.Decides.{nat_tests}
use Rattle.std.proofs.lemmas.List.{take_more}
use Rattle.std.proofs.lemmas.List.Folds.{list_any-append}
use Rattle.worker_pool.specs.Rounds.{at_most}
use Rattle.problem.specs.Sums.{is_bad_of}
use Rattle.table_sum.specs.declared.sum.TableSum.{TableSum}
use Rattle.sum_job.specs.Parts.{least_bad_among}
use Rattle.sum_job.specs.Parts as one
use Rattle.sum_job.proofs.JobLaws.{among_none, among_some_back}
use Rattle.cross_job.specs.Cross.{CrossView, view_of, job_of, is_bad_for_some, first_of_block, size_of_block, least_bad_of, lesser}

lesser_first : (lo : ℕ) (o : Option ℕ) → ((k : ℕ) → o ≡ Some k → lo ≤ k) → lesser (Some lo) o ≡ Some lo
lesser_first lo None h = refl
lesser_first lo (Some k) h = let most = h k refl in ap Some (omega arith)

lesser_second : (lo : ℕ) (o : Option ℕ) → ((k : ℕ) → o ≡ Some k → lo ≤ k) → lesser o (Some lo) ≡ Some lo
lesser_second lo None h = refl
lesser_second lo (Some k) h = let most = h k refl in ap Some (omega arith)

pub lesser_none : (o : Option ℕ) → lesser o None ≡ o
lesser_none None = refl
lesser_none (Some k) = refl

-- the least number that is bad in one way or another
pub among_either : (f g h : ℕ → Bool) → ((k : ℕ) → h k ≡ (f k || g k)) → (lo n : ℕ)
    → least_bad_among h lo n ≡ lesser (least_bad_among f lo n) (least_bad_among g lo n)
unfolding least_bad_among
among_either f g h either lo zero = refl
among_either f g h either lo (suc n) =
    cases (f lo) (g lo) (h lo) (either lo) (among_either f g h either (lo + 1) n)
    (λ k e. let least = among_some_back f (lo + 1) n k e in let from = least.from in omega arith)
    (λ k e. let least = among_some_back g (lo + 1) n k e in let from = least.from in omega arith)
  where
    cases : (x y z : Bool) → z ≡ (x || y)
        → least_bad_among h (lo + 1) n ≡ lesser (least_bad_among f (lo + 1) n) (least_bad_among g (lo + 1) n)
        → ((k : ℕ) → least_bad_among f (lo + 1) n ≡ Some k → lo ≤ k)
        → ((k : ℕ) → least_bad_among g (lo + 1) n ≡ Some k → lo ≤ k)
        → (if z then Some lo else least_bad_among h (lo + 1) n)
        ≡ lesser (if x then Some lo else least_bad_among f (lo + 1) n) (if y then Some lo else least_bad_among g (lo + 1) n)
    cases true true true e rest above over = ap Some (omega arith)
    cases true false true e rest above over = sym (lesser_first lo _ over)
    cases false true true e rest above over = sym (lesser_second lo _ above)
    cases false false false e rest above over = rest
    cases true y false e rest above over = cc
    cases false true false e rest above over = cc
    cases false false true e rest above over = cc

-- an answer at most a number that was seen
pub at_most-lesser : (seen : ℕ) (x y : Option ℕ) → at_most seen (lesser x y) ≡ lesser (at_most seen x) (at_most seen y)
at_most-lesser seen None y = refl
at_most-lesser seen (Some a) None = sym (lesser_none (at_most seen (Some a)))
at_most-lesser seen (Some a) (Some b) = grind (arith, nat_tests)

-- no problem has no bad number
pub none_of_nothing : (v : CrossView) (block seen : ℕ) → None ≡ at_most seen (least_bad_of (record v { sums = [] }) block)
none_of_nothing v block seen =
    sym (ap (at_most seen) (among_none (λ k. false) (first_of_block v block) (size_of_block v block) (λ j from below e. absurd (apart e))))
  where
    apart : false ≡ true → ⊥
    apart e = cc

-- one more problem
pub least_of_more : (v : CrossView) (i : ℕ) (s : TableSum) (block seen : ℕ) (least bad : Option ℕ) → i < length v.sums
    → least ≡ at_most seen (least_bad_of (record v { sums = take i v.sums }) block)
    → bad ≡ at_most seen (one.least_bad_of (job_of v (slice_index_or v.sums i s)) block)
    → lesser least bad ≡ at_most seen (least_bad_of (record v { sums = take (i + 1) v.sums }) block)
least_of_more v i s block seen least bad lt e f =
    ap₂ lesser e f
    ∙ sym (at_most-lesser seen _ _)
    ∙ ap (at_most seen)
    (sym (among_either (is_bad_for_some (take i v.sums)) (is_bad_of (view_of (slice_index_or v.sums i s)))
    (is_bad_for_some (take (i + 1) v.sums)) either (first_of_block v block) (size_of_block v block)))
  where
    or_false : (b : Bool) → (b || false) ≡ b
    or_false true = refl
    or_false false = refl

    either : (k : ℕ) → is_bad_for_some (take (i + 1) v.sums) k
        ≡ (is_bad_for_some (take i v.sums) k || is_bad_of (view_of (slice_index_or v.sums i s)) k)
    either k =
        ap (λ xs. is_bad_for_some xs k) (take_more v.sums i s lt)
        ∙ list_any-append (λ sum. is_bad_of (view_of sum) k) (take i v.sums) (slice_index_or v.sums i s ∷ [])
        ∙ ap (λ b. is_bad_for_some (take i v.sums) k || b) (or_false (is_bad_of (view_of (slice_index_or v.sums i s)) k))
