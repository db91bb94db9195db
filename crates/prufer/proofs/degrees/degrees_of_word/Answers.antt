-- After each letter, the degree that is kept for a vertex and its count in the letters that are left add up to what
-- they were at the start; at the end no letter is left.
use Rattle.std.proofs.Common.{◌≡◌, ℕ, suc, ◌+◌, ◌<◌, ◌≤◌, Bool, true, false, nat_lt, if◌then◌else◌, List, take, drop, zero, length, set, get_or, arith, ap, ◌∙◌, refl, All, replicate, ◌++◌, ◌-◌, ltb-true, length-set}
use Rattle.std.proofs.lemmas.Bool.Decides.{nat_tests}
use Rattle.std.proofs.Math.ListN.{drop_of_length-le}
use Rattle.std.proofs.lemmas.List.{get_or_append_left, get_or-append_right, get_or-replicate, length-replicate, length-append, length-take-le, drop-replicate}
use Rattle.lists.specs.Members.{count_in}
use Rattle.prufer.proofs.DegreeCounts.{get_or-raised, count_in-drop, count_in_le, count_in_outside, letter_below}
use Rattle.prufer.proofs.degrees.degrees_of_word.Goals as goal

-- ones at the places below n, and zeros after them
ones_below : ℕ → List ℕ
ones_below n = replicate n 1 ++ replicate (11 - n) 0

length-ones_below : (n : ℕ) → n ≤ 11 → length (ones_below n) ≡ 11
unfolding ones_below
length-ones_below n most = simp (length-append, length-replicate) (omega arith)

get_or-ones_below : (n v : ℕ) → get_or (ones_below n) v 0 ≡ (if nat_lt v n then 1 else 0)
unfolding ones_below
get_or-ones_below n v = cases (nat_lt v n) refl
  where
    above : nat_lt v n ≡ false → n ≤ v
    above t = grind (arith, nat_tests)

    zero_at : (m i : ℕ) → get_or (replicate {A = ℕ} m 0) i 0 ≡ 0
    zero_at zero i = refl
    zero_at (suc m) zero = refl
    zero_at (suc m) (suc i) = zero_at m i

    cases : (b : Bool) → nat_lt v n ≡ b → get_or (replicate {A = ℕ} n 1 ++ replicate (11 - n) 0) v 0 ≡ (if b then 1 else 0)
    cases true t = get_or_append_left (replicate n 1) (replicate (11 - n) 0) 0 v (rw length-replicate (ltb-true v n t)) ∙ get_or-replicate n v 1 0 (ltb-true v n t)
    cases false t = get_or-append_right (replicate n 1) (replicate (11 - n) 0) n v 0 (length-replicate n 1) (above t) ∙ zero_at (11 - n) (v - n)

filled : (n : ℕ) (front zeros : List ℕ) → n ≤ 11 → zeros ≡ replicate 11 0 → front ≡ replicate (length (take n zeros)) 1 → front ++ drop n zeros ≡ ones_below n
unfolding ones_below
filled n front zeros most z e =
    ap (λ l. l ++ drop n zeros) (e ∙ ap (λ k. replicate k 1) (length-take-le n zeros (rw z (omega (arith, length-replicate {A = ℕ} 11 0)))))
    ∙ ap (λ l. replicate n 1 ++ l) (ap (drop n) z ∙ drop-replicate n 11 0)

pub loop-letter-init : goal.loop-letter-init
loop-letter-init c =
    let ones = filled c.args.n _ _ c.requires.most refl (c.fill.ensures.after (λ y e. e)) in
    record {
      long = rw ones (length-ones_below c.args.n c.requires.most);
      counts = λ v h. rw ones (ap (λ d. d + count_in v c.args.letters.now) (get_or-ones_below c.args.n v));
    }

bounded : (ds w : List ℕ) (i n v : ℕ) → length w ≤ 9 → get_or ds v 0 + count_in v (drop i w) ≡ (if nat_lt v n then 1 else 0) + count_in v w → get_or ds v 0 ≤ 10
bounded ds w i n v h e = step (nat_lt v n) e
  where
    step : (b : Bool) → get_or ds v 0 + count_in v (drop i w) ≡ (if b then 1 else 0) + count_in v w → get_or ds v 0 ≤ 10
    step true e = omega (arith, count_in_le v w)
    step false e = omega (arith, count_in_le v w)

pub overflow_add-degrees : goal.overflow_add-degrees
overflow_add-degrees c =
    let x = get_or c.args.letters.now c.loop-letter.letter-index 0 in
    let less = letter_below c.args.n c.args.letters.now c.loop-letter.letter-index c.requires.within c.loop-letter-test.true in
    omega (arith, bounded c.loop-letter.degrees c.args.letters.now c.loop-letter.letter-index c.args.n x c.requires.short (c.loop-letter.invariant.counts x (let most = c.requires.most in omega arith)))

one_letter : (ds w : List ℕ) (i n v : ℕ) → i < length w → get_or w i 0 < length ds
    → get_or ds v 0 + count_in v (drop i w) ≡ (if nat_lt v n then 1 else 0) + count_in v w
    → get_or (set ds (get_or w i 0) (get_or ds (get_or w i 0) 0 + 1)) v 0 + count_in v (drop (i + 1) w) ≡ (if nat_lt v n then 1 else 0) + count_in v w
one_letter ds w i n v h l e =
    let raised = get_or-raised ds (get_or w i 0) v l in
    let split = count_in-drop w i v h in
    omega arith

pub loop-letter-preserved : goal.loop-letter-preserved
loop-letter-preserved c = record {
  long = length-set c.loop-letter.degrees _ _ ∙ c.loop-letter.invariant.long;
  counts = λ v h. one_letter c.loop-letter.degrees c.args.letters.now c.loop-letter.letter-index c.args.n v c.loop-letter-test.true
      (let l = c.loop-letter.invariant.long in let less = letter_below c.args.n c.args.letters.now c.loop-letter.letter-index c.requires.within c.loop-letter-test.true in let most = c.requires.most in omega arith)
      (c.loop-letter.invariant.counts v h);
}

counted : (ds w : List ℕ) (i n v : ℕ) → length w ≤ i → All (λ x. x < n) w → get_or ds v 0 + count_in v (drop i w) ≡ (if nat_lt v n then 1 else 0) + count_in v w
    → get_or ds v 0 ≡ (if nat_lt v n then suc (count_in v w) else 0)
counted ds w i n v h all e = step (nat_lt v n) (get_or ds v 0) (count_in v (drop i w)) (count_in v w) refl e (ap (count_in v) (drop_of_length-le w h)) (count_in_outside n v w all)
  where
    step : (b : Bool) (d r k : ℕ) → nat_lt v n ≡ b → d + r ≡ (if b then 1 else 0) + k → r ≡ 0 → (n ≤ v → k ≡ 0) → d ≡ (if b then suc k else 0)
    step b d r k t e z out = grind (arith, nat_tests)

pub returns-clause-degrees : goal.returns-clause-degrees
returns-clause-degrees c v h = counted c.loop-letter.degrees c.args.letters.now c.loop-letter.letter-index c.args.n v c.loop-letter-test.false c.requires.within (c.loop-letter.invariant.counts v h)
