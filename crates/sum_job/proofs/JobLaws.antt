-- The least bad number of consecutive numbers.
use Rattle.std.proofs.Common.{◌≡◌, ◌≢◌, ℕ, zero, suc, ◌+◌, ◌-◌, ◌<◌, ◌≤◌, Bool, true, false, if◌then◌else◌, Option, Some, None, refl, sym, ap, ◌∙◌, arith, ⊎_elim}
use Rattle.std.proofs.lemmas.Bool.{cases_eq}
use Rattle.localisation.specs.Agreement.{IsLeastBad, NoneBad}
use Rattle.sum_job.specs.Parts.{JobView, block_start, block_stop, least_bad_among, least_bad_of}
use Rattle.problem.specs.Sums.{is_bad_of}

choose : (b : Bool) (x y : Option ℕ) → b ≡ true → (if b then x else y) ≡ x
choose true x y e = refl
choose false x y e = cc

pass : (b : Bool) (x y : Option ℕ) → b ≢ true → (if b then x else y) ≡ y
pass true x y e = absurd (e refl)
pass false x y e = refl

pub among_none : (bad : ℕ → Bool) (lo n : ℕ) → NoneBad bad lo (lo + n) → least_bad_among bad lo n ≡ None
unfolding least_bad_among
among_none bad lo zero h = refl
among_none bad lo (suc n) h =
    pass (bad lo) (Some lo) _ (h lo (omega arith) (omega arith))
    ∙ among_none bad (lo + 1) n (λ j from below. h j (omega arith) (omega arith))

clash : {b : Bool} → b ≡ false → b ≡ true → ⊥
clash p q = cc

pub among_some : (bad : ℕ → Bool) (lo n k : ℕ) → IsLeastBad bad lo (lo + n) k → least_bad_among bad lo n ≡ Some k
unfolding least_bad_among
among_some bad lo zero k h = let a = h.from in let b = h.below in absurd (omega arith)
among_some bad lo (suc n) k h =
    cases (bad lo) refl
    (λ apart. let from = h.from in
    let below = h.below in
    among_some bad (lo + 1) n k
    (record { from = omega arith; below = omega arith; is_bad = h.is_bad; least = λ j a b. h.least j (omega arith) b }))
  where
    first : (k : ℕ) → lo ≤ k → (lo < k → ⊥) → lo ≡ k
    first k le not = grind arith

    cases : (b : Bool) → bad lo ≡ b → (lo ≢ k → least_bad_among bad (lo + 1) n ≡ Some k)
        → (if bad lo then Some lo else least_bad_among bad (lo + 1) n) ≡ Some k
    cases true e rest = choose (bad lo) (Some lo) _ e ∙ ap Some (first k h.from (λ lt. h.least lo (omega arith) lt e))
    cases false e rest = pass (bad lo) (Some lo) _ (λ t. clash e t) ∙ rest (λ eq. clash (sym (ap bad eq) ∙ e) h.is_bad)

-- a block without a bad number
pub none_of_block : (job : JobView) (block : ℕ) → block_start job block ≤ block_stop job block
    → NoneBad (is_bad_of job.problem) (block_start job block) (block_stop job block) → least_bad_of job block ≡ None
none_of_block job block order h =
    among_none (is_bad_of job.problem) (block_start job block) (block_stop job block - block_start job block)
    (λ j from below. h j from (omega arith))

-- a block with one
pub least_of_block : (job : JobView) (block k : ℕ) → block_start job block ≤ block_stop job block
    → IsLeastBad (is_bad_of job.problem) (block_start job block) (block_stop job block) k
    → least_bad_of job block ≡ Some k
least_of_block job block k order h =
    among_some (is_bad_of job.problem) (block_start job block) (block_stop job block - block_start job block) k
    (let below = h.below in record { from = h.from; below = omega arith; is_bad = h.is_bad; least = h.least })

-- back again
pub among_none_back : (bad : ℕ → Bool) (lo n : ℕ) → least_bad_among bad lo n ≡ None → NoneBad bad lo (lo + n)
unfolding least_bad_among
among_none_back bad lo zero h j from below = absurd (omega arith)
among_none_back bad lo (suc n) h j from below = cases (bad lo) refl (λ e. among_none_back bad (lo + 1) n e)
  where
    cases : (b : Bool) → bad lo ≡ b → (least_bad_among bad (lo + 1) n ≡ None → NoneBad bad (lo + 1) (lo + 1 + n))
        → bad j ≢ true
    cases true e rest t = absurd (apart (sym h ∙ choose (bad lo) (Some lo) _ e))
      where
        apart : {x : ℕ} → None ≡ Some x → ⊥
        apart p = cc
    cases false e rest t =
        let tail = rest (sym (pass (bad lo) (Some lo) _ (λ u. clash e u)) ∙ h) in
        ⊎_elim (λ here. clash (sym (ap bad here) ∙ e) t) (λ apart. tail j (omega arith) (omega arith) t) (cases_eq lo j)

pub among_some_back : (bad : ℕ → Bool) (lo n k : ℕ) → least_bad_among bad lo n ≡ Some k → IsLeastBad bad lo (lo + n) k
unfolding least_bad_among
among_some_back bad lo zero k h = cc
among_some_back bad lo (suc n) k h = cases (bad lo) refl (λ e. among_some_back bad (lo + 1) n k e)
  where
    same : {x y : ℕ} → Some x ≡ Some y → x ≡ y
    same p = cc

    cases : (b : Bool) → bad lo ≡ b → (least_bad_among bad (lo + 1) n ≡ Some k → IsLeastBad bad (lo + 1) (lo + 1 + n) k)
        → IsLeastBad bad lo (lo + suc n) k
    cases true e rest =
        let is : lo ≡ k = same (sym (choose (bad lo) (Some lo) _ e) ∙ h) in
        record { from = omega arith; below = omega arith; is_bad = sym (ap bad is) ∙ e; least = λ j a b. absurd (omega arith) }
    cases false e rest =
        let tail = rest (sym (pass (bad lo) (Some lo) _ (λ u. clash e u)) ∙ h) in
        let from = tail.from in
        let below = tail.below in
        record {
          from = omega arith;
          below = omega arith;
          is_bad = tail.is_bad;
          least = λ j a b t. ⊎_elim (λ here. clash (sym (ap bad here) ∙ e) t) (λ apart. tail.least j (omega arith) b t) (cases_eq lo j);
        }
