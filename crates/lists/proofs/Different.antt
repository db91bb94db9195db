-- Members, by the test on numbers: how they count, and lists of different numbers.
use Rattle.std.proofs.Common.{◌≡◌, ◌≢◌, ℕ, zero, suc, ◌+◌, ◌<◌, ◌≤◌, ◌⊎◌, Bool, true, false, ◌||◌, ◌==◌, nat_lt, if◌then◌else◌, List, [], ◌∷◌, ◌++◌, length, refl, sym, ap, ◌∙◌, subst, inl, inr, ⊎_elim, arith, zero-le, eqb-true, eq-eqb, le-ltb, length-append}
use Rattle.std.proofs.lemmas.Bool.Decides.{nat_tests}
use Rattle.lists.specs.Ranges.{below}
use Rattle.lists.specs.Members.{IsIn, here, there, is_member, count_in, without, AllDifferent}
use Rattle.lists.proofs.Members.{in_cons}

pub member_in : (x : ℕ) (xs : List ℕ) → is_member x xs ≡ true → IsIn x xs
member_in x [] h = cc
member_in x (y ∷ xs) h = step (y == x) refl h (λ k. member_in x xs k)
  where
    step : (b : Bool) → (y == x) ≡ b → (b || is_member x xs) ≡ true → (is_member x xs ≡ true → IsIn x xs) → IsIn x (y ∷ xs)
    step true c k f = subst (λ z. IsIn z (y ∷ xs)) (eqb-true y x c) here
    step false c k f = there (f k)

pub in_member : (x : ℕ) (xs : List ℕ) → IsIn x xs → is_member x xs ≡ true
in_member x [] i = elim i [ ]
in_member x (y ∷ xs) i = head (y == x) (is_member x xs) (⊎_elim (λ s. inl (eq-eqb y x (sym s))) (λ j. inr (in_member x xs j)) (in_cons i))
  where
    head : (e m : Bool) → (e ≡ true) ⊎ (m ≡ true) → (e || m) ≡ true
    head e m h = grind arith

pub member-without_other : (x y : ℕ) (xs : List ℕ) → x ≢ y → is_member y (without x xs) ≡ is_member y xs
member-without_other x y [] ne = refl
member-without_other x y (z ∷ xs) ne = step x y z (without x xs) xs ne (member-without_other x y xs ne)
  where
    step : (x y z : ℕ) (rest xs : List ℕ) → x ≢ y → is_member y rest ≡ is_member y xs → is_member y (if z == x then xs else z ∷ rest) ≡ ((z == y) || is_member y xs)
    step x y z rest xs ne e = grind arith

pub member-without_same : (x : ℕ) (xs : List ℕ) → AllDifferent xs → is_member x (without x xs) ≡ false
member-without_same x [] d = refl
member-without_same x (z ∷ xs) d = step x z (without x xs) xs d.0 (member-without_same x xs d.1)
  where
    step : (x z : ℕ) (rest xs : List ℕ) → is_member z xs ≡ false → is_member x rest ≡ false → is_member x (if z == x then xs else z ∷ rest) ≡ false
    step x z rest xs h e = grind arith

pub length-without : (x : ℕ) (xs : List ℕ) → is_member x xs ≡ true → length xs ≡ suc (length (without x xs))
length-without x [] h = cc
length-without x (z ∷ xs) h = step x z (without x xs) xs h (length-without x xs)
  where
    step : (x z : ℕ) (rest xs : List ℕ) → ((z == x) || is_member x xs) ≡ true → (is_member x xs ≡ true → length xs ≡ suc (length rest)) → suc (length xs) ≡ suc (length (if z == x then xs else z ∷ rest))
    step x z rest xs h e = grind arith

pub different-without : (x : ℕ) (xs : List ℕ) → AllDifferent xs → AllDifferent (without x xs)
different-without x [] d = tt
different-without x (z ∷ xs) d = step x z (without x xs) xs d.0 d.1 (different-without x xs d.1) (λ ne. member-without_other x z xs ne)
  where
    step : (x z : ℕ) (rest xs : List ℕ) → is_member z xs ≡ false → AllDifferent xs → AllDifferent rest → (x ≢ z → is_member z rest ≡ is_member z xs) → AllDifferent (if z == x then xs else z ∷ rest)
    step x z rest xs h d e f = grind arith

-- ---- members and counts
pub count_absent : (x : ℕ) (w : List ℕ) → is_member x w ≡ false → count_in x w ≡ 0
count_absent x [] h = refl
count_absent x (y ∷ w) h = step x y (is_member x w) (count_in x w) h (count_absent x w)
  where
    step : (x y : ℕ) (m : Bool) (k : ℕ) → ((y == x) || m) ≡ false → (m ≡ false → k ≡ 0) → (if y == x then 1 else 0) + k ≡ 0
    step x y m k h e = grind arith

pub count_present : (x : ℕ) (w : List ℕ) → is_member x w ≡ true → 0 < count_in x w
count_present x [] h = cc
count_present x (y ∷ w) h = step x y (is_member x w) (count_in x w) h (count_present x w)
  where
    step : (x y : ℕ) (m : Bool) (k : ℕ) → ((y == x) || m) ≡ true → (m ≡ true → 0 < k) → 0 < (if y == x then 1 else 0) + k
    step x y m k h e = grind arith

-- what is different from each member is no member
pub member_apart : (x y : ℕ) (xs : List ℕ) → is_member x xs ≡ true → is_member y xs ≡ false → x ≢ y
member_apart x y xs h k e = let a : is_member x xs ≡ is_member y xs = ap (λ z. is_member z xs) e in cc

pub member_head : (x : ℕ) (xs : List ℕ) → is_member x (x ∷ xs) ≡ true
member_head x xs = grind arith

pub member_tail : (x y : ℕ) (xs : List ℕ) → is_member x xs ≡ true → is_member x (y ∷ xs) ≡ true
member_tail x y xs h = grind arith

-- a list of different members of another is no longer
pub subset_length : (vs ws : List ℕ) → AllDifferent vs → ((v : ℕ) → is_member v vs ≡ true → is_member v ws ≡ true) → length vs ≤ length ws
subset_length [] ws d h = zero-le
subset_length (v ∷ vs) ws d h =
    let l = length-without v ws (h v (member_head v vs)) in
    let rest = subset_length vs (without v ws) d.1 (λ u m. member-without_other v u ws (λ e. member_apart u v vs m d.0 (sym e)) ∙ h u (member_tail u v vs m)) in
    omega arith

pub member_of_without : (x y : ℕ) (xs : List ℕ) → is_member y (without x xs) ≡ true → is_member y xs ≡ true
member_of_without x y [] h = h
member_of_without x y (z ∷ xs) h = step x y z xs (without x xs) h (member_of_without x y xs)
  where
    step : (x y z : ℕ) (xs rest : List ℕ) → is_member y (if z == x then xs else z ∷ rest) ≡ true → (is_member y rest ≡ true → is_member y xs ≡ true) → ((z == y) || is_member y xs) ≡ true
    step x y z xs rest h e = grind arith

pub member-append : (x : ℕ) (xs ys : List ℕ) → is_member x (xs ++ ys) ≡ (is_member x xs || is_member x ys)
member-append x [] ys = refl
member-append x (z ∷ xs) ys = step (z == x) (is_member x xs) (is_member x ys) (is_member x (xs ++ ys)) (member-append x xs ys)
  where
    step : (a b c d : Bool) → d ≡ (b || c) → (a || d) ≡ ((a || b) || c)
    step a b c d e = grind arith

pub member-below : (x n : ℕ) → is_member x (below n) ≡ nat_lt x n
member-below x zero = sym (le-ltb x 0 zero-le)
member-below x (suc n) = member-append x (below n) (n ∷ []) ∙ ap (λ (b : Bool). b || ((n == x) || false)) (member-below x n) ∙ step x n
  where
    step : (x n : ℕ) → (nat_lt x n || ((n == x) || false)) ≡ nat_lt x (suc n)
    step x n = grind (arith, nat_tests)

pub different-push : (xs : List ℕ) (y : ℕ) → AllDifferent xs → is_member y xs ≡ false → AllDifferent (xs ++ y ∷ [])
different-push [] y d h = (refl, tt)
different-push (x ∷ xs) y d h = step (different-push xs y d.1)
  where
    out : (x y : ℕ) (m : Bool) → ((x == y) || m) ≡ false → m ≡ false
    out x y m h = grind arith

    head : (x y : ℕ) (m n k : Bool) → m ≡ false → ((x == y) || n) ≡ false → k ≡ (m || ((y == x) || false)) → k ≡ false
    head x y m n k h e f = grind (arith, nat_tests)

    step : (is_member y xs ≡ false → AllDifferent (xs ++ y ∷ [])) → AllDifferent (x ∷ (xs ++ y ∷ []))
    step f = (head x y (is_member x xs) (is_member y xs) (is_member x (xs ++ y ∷ [])) d.0 h (member-append x xs (y ∷ [])), f (out x y (is_member y xs) h))

pub different-below : (n : ℕ) → AllDifferent (below n)
different-below zero = tt
different-below (suc n) = different-push (below n) n (different-below n) (member-below n n ∙ le-ltb n n (omega arith))

pub length-below : (n : ℕ) → length (below n) ≡ n
length-below zero = refl
length-below (suc n) = length-append (below n) (n ∷ []) ∙ let h = length-below n in omega arith
