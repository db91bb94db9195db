-- Members of ranges of numbers.
use Rattle.std.proofs.Common.{◌≡◌, ℕ, zero, suc, ◌+◌, ◌<◌, ◌≤◌, [], ◌∷◌, ◌++◌, subst, ⊎_elim, arith}
use Rattle.std.proofs.lemmas.Bool.{cases_lt}
use Rattle.lists.specs.Ranges.{below, counted_from}
use Rattle.lists.specs.Members.{IsIn, here, there, EachOnce}
use Rattle.lists.proofs.Members.{nothing_in, in_cons, in_append_left, in_append_right, from_append, once_append}

pub in_below : (n x : ℕ) → x < n → IsIn x (below n)
in_below zero x h = absurd (omega arith)
in_below (suc n) x h =
    ⊎_elim (λ l. in_append_left (n ∷ []) (in_below n x l)) (λ l. let e : n ≡ x = omega arith in subst (λ z. IsIn z (below n ++ n ∷ [])) e (in_append_right (below n) here)) (cases_lt x n)

pub in_counted_from : (a n x : ℕ) → a ≤ x → x < a + n → IsIn x (counted_from a n)
in_counted_from a zero x h k = absurd (omega arith)
in_counted_from a (suc n) x h k =
    ⊎_elim (λ l. there (in_counted_from (suc a) n x l (omega arith))) (λ l. let e : a ≡ x = omega arith in subst (λ z. IsIn z (a ∷ counted_from (suc a) n)) e here) (cases_lt a x)

pub once_counted_from : (a n : ℕ) → EachOnce (counted_from a n)
once_counted_from a zero = tt
once_counted_from a (suc n) = (λ y i e. let k = at_least (suc a) n y i in absurd (omega arith), once_counted_from (suc a) n)
  where
    at_least : (a n y : ℕ) → IsIn y (counted_from a n) → a ≤ y
    at_least a zero y i = absurd (nothing_in i)
    at_least a (suc n) y i = ⊎_elim (λ e. omega arith) (λ k. let h = at_least (suc a) n y k in omega arith) (in_cons i)

pub once_below : (n : ℕ) → EachOnce (below n)
once_below zero = tt
once_below (suc n) = once_append (below n) (n ∷ []) (once_below n) ((λ y h. absurd (nothing_in h)), tt)
    (λ x y i j e. let h = less n x i in ⊎_elim (λ f. omega arith) (λ k. nothing_in k) (in_cons j))
  where
    less : (n x : ℕ) → IsIn x (below n) → x < n
    less zero x i = absurd (nothing_in i)
    less (suc n) x i = ⊎_elim (λ k. let h = less n x k in omega arith) (λ k. ⊎_elim (λ e. omega arith) (λ j. absurd (nothing_in j)) (in_cons k)) (from_append (below n) (n ∷ []) i)

pub from_counted : (a n x : ℕ) → IsIn x (counted_from a n) → (a ≤ x) × (x < a + n)
from_counted a zero x i = absurd (nothing_in i)
from_counted a (suc n) x i = ⊎_elim (λ e. (omega arith, omega arith)) (λ j. let h = from_counted (suc a) n x j in (omega arith, omega arith)) (in_cons i)
