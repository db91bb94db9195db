-- Shares that grow by the number of blocks of their workers grow by the number of all blocks together.
use Rattle.std.proofs.Common.{◌≡◌, ℕ, zero, suc, ◌+◌, ◌*◌, ◌<◌, eqb, arith, length, get_or, List, [], ◌∷◌, refl}
use Rattle.std.specs.Prelude.{count_by, sum}
use Rattle.std.proofs.lemmas.List.Sums.{sum_by-cons}
use Rattle.claim_table.specs.Counts.{bit, sum_below}
use Rattle.claim_table.proofs.Lists.{sum_below_add, sum_below_at, sum_below_none}
use Rattle.worker_pool.specs.Shares.{GrewBy}

sum_below_first : (n : ℕ) (f : ℕ → ℕ) → sum_below (suc n) f ≡ f 0 + sum_below n (λ j. f (suc j))
sum_below_first zero f = omega arith
sum_below_first (suc n) f = omega (arith, sum_below_first n f)

-- each owner is counted at one worker
counted : (n : ℕ) (owners : List ℕ) → ((b : ℕ) → b < length owners → get_or owners b 0 < n)
    → sum_below n (λ w. count_by (λ o. eqb o w) owners) ≡ length owners
counted n [] h = sum_below_none n (λ w. count_by (λ o. eqb o w) []) (λ w lt. refl)
counted n (o ∷ os) h = let at = sum_below_at n o (λ w. 1) (h 0 (omega arith)) in
    let rest = counted n os (λ b lt. h (suc b) (omega arith)) in
    omega (
      arith,
      sum_below_add n (λ w. bit (eqb o w) * 1) (λ w. count_by (λ x. eqb x w) os)
          (λ w. count_by (λ x. eqb x w) (o ∷ os))
          (λ w lt. omega (arith, sum_by-cons (λ x. bit (eqb x w)) o os)),
    )

added : (xs ys : List ℕ) (f : ℕ → ℕ) → length ys ≡ length xs
    → ((j : ℕ) → j < length xs → get_or ys j 0 ≡ get_or xs j 0 + f j) → sum ys ≡ sum xs + sum_below (length xs) f
added [] [] f e h = refl
added [] (y ∷ ys) f e h = absurd (omega arith)
added (x ∷ xs) [] f e h = absurd (omega arith)
added (x ∷ xs) (y ∷ ys) f e h = let rest = added xs ys (λ j. f (suc j)) (omega arith)
    (λ j lt. h (suc j) (omega arith)) in
    omega (
      arith,
      h 0 (omega arith),
      sum_below_first (length xs) f,
      sum_by-cons (λ n. n) x xs,
      sum_by-cons (λ n. n) y ys,
    )

pub sum-GrewBy : (owners before after : List ℕ) → GrewBy owners before after
    → ((b : ℕ) → b < length owners → get_or owners b 0 < length before) → sum after ≡ sum before + length owners
sum-GrewBy owners before after h owned = omega (
  arith,
  added before after (λ w. count_by (λ o. eqb o w) owners) h.workers h.each,
  counted (length before) owners owned,
)
