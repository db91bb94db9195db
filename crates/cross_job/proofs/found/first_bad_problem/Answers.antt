use Rattle.std.proofs.Common.{◌≡◌, ◌≢◌, ℕ, suc, ◌<◌, Bool, true, false, ◌||◌, List, [], ◌∷◌, length, slice_index_or, refl, arith}
use Rattle.problem.specs.Sums.{is_bad_of}
use Rattle.table_sum.specs.declared.sum.TableSum.{TableSum}
use Rattle.cross_job.specs.Cross.{view_of, is_bad_for_some}
use Rattle.cross_job.proofs.found.first_bad_problem.Goals as goal

neither : (x y : Bool) → x ≢ true → y ≢ true → (x || y) ≢ true
neither true y h k = absurd (h refl)
neither false y h k = k

none_bad : (sums : List TableSum) (number : ℕ)
    → ((i : ℕ) (s : TableSum) → i < length sums → is_bad_of (view_of (slice_index_or sums i s)) number ≢ true)
    → is_bad_for_some sums number ≢ true
none_bad [] number h = λ e. absurd (apart e)
  where
    apart : false ≡ true → ⊥
    apart e = cc
none_bad (s ∷ sums) number h =
    neither (is_bad_of (view_of s) number) (is_bad_for_some sums number) (h 0 s (omega arith))
    (none_bad sums number (λ i t lt. h (suc i) t (omega arith)))

pub returns-clause-none : goal.returns-clause-none
returns-clause-none c =
    let none =
    none_bad c.args.sums.now c.args.number
    (λ i s lt. c.loop-problem.invariant i s (let past = c.loop-problem-test.false in let end = c.loop-problem.auto.problem-end in omega arith)) in
    ((λ e bad. none bad), (λ bad. refl))
