-- Lists, counts in them and sums over them.
use Rattle.std.proofs.Common.{◌≡◌, ◌≢◌, ℕ, zero, suc, ◌+◌, ◌*◌, ◌<◌, ◌≤◌, eqb, eq-eqb, ne_eqb, leb, List, [], ◌∷◌, ◌++◌, length, length-append, append-nil, map, set, get_or, sym, refl, ap, ◌∙◌, subst, arith}
use Rattle.std.proofs.lemmas.Bool.Decides.{nat_tests}
use Rattle.std.specs.Prelude.{All}
use mathlib.Core.Logic.{dite}
use mathlib.Core.Option.{some, some-injective, some-ne-none}
use native.Mathlib.Decide.{ℕ_discrete, dec_lt}
use lib.ListN.{get_elem?}
use Rattle.claim_table.specs.Counts.{bit, occurrences, up_to, total, sum_below, nothing_bad, least_of}

pub total-set : {A : Type 0} (f : A → ℕ) (xs : List A) (i : ℕ) (x y : A) → get_elem? xs i ≡ some x
    → total f (set xs i y) + f x ≡ total f xs + f y
total-set f [] i x y e = absurd (some-ne-none x (sym e))
total-set f (z ∷ zs) zero x y e = let p : f z ≡ f x = ap f (some-injective z x e) in omega arith
total-set f (z ∷ zs) (suc i) x y e = omega (arith, total-set f zs i x y e)

pub total-append : {A : Type 0} (f : A → ℕ) (xs ys : List A) → total f (xs ++ ys) ≡ total f xs + total f ys
total-append f [] ys = omega arith
total-append f (x ∷ xs) ys = omega (arith, total-append f xs ys)

pub at_most_total : {A : Type 0} (f : A → ℕ) (xs : List A) (i : ℕ) (x : A) → get_elem? xs i ≡ some x → f x ≤ total f xs
at_most_total f [] i x e = absurd (some-ne-none x (sym e))
at_most_total f (z ∷ zs) zero x e = let p : f z ≡ f x = ap f (some-injective z x e) in omega arith
at_most_total f (z ∷ zs) (suc i) x e = omega (arith, at_most_total f zs i x e)

pub total_le : {A : Type 0} (f g : A → ℕ) (xs : List A) → ((x : A) → f x ≤ g x) → total f xs ≤ total g xs
total_le f g [] h = omega arith
total_le f g (x ∷ xs) h = omega (arith, total_le f g xs h, h x)

pub at_most_or : {A : Type 0} (f : A → ℕ) (rs : List A) (k : ℕ) (d : A) → k < length rs → f (get_or rs k d) ≤ total f rs
at_most_or f [] k d lt = absurd (omega arith)
at_most_or f (r ∷ rs) zero d lt = omega arith
at_most_or f (r ∷ rs) (suc k) d lt = omega (arith, at_most_or f rs k d (omega arith))

-- an element was cut in two, two were joined, or one that counts nothing came
pub total_dealt : {A : Type 0} (f : A → ℕ) (views : List A) (id : ℕ) (v : A) (left right : A)
    → get_elem? views id ≡ some v → f v ≡ f left + f right
    → total f (set views id left ++ right ∷ []) ≡ total f views
total_dealt f views id v left right at e = omega (
  arith,
  total-set f views id v left at,
  total-append f (set views id left) (right ∷ []),
)

pub total_joined : {A : Type 0} (f : A → ℕ) (views : List A) (id other : ℕ) (v w both spent : A)
    → get_elem? views id ≡ some v → get_elem? (set views id both) other ≡ some w → f both + f spent ≡ f v + f w
    → total f (set (set views id both) other spent) ≡ total f views
total_joined f views id other v w both spent at at' e = omega (
  arith,
  total-set f views id v both at,
  total-set f (set views id both) other w spent at',
)

pub total_nothing : {A : Type 0} (views : List A) (f : A → ℕ) (v : A) → f v ≡ 0
    → total f (views ++ v ∷ []) ≡ total f views
total_nothing views f v e = omega (arith, total-append f views (v ∷ []))

pub occurrences-append : (x : ℕ) (xs ys : List ℕ) → occurrences x (xs ++ ys) ≡ occurrences x xs + occurrences x ys
occurrences-append x [] ys = omega arith
occurrences-append x (y ∷ xs) ys = omega (arith, occurrences-append x xs ys)

pub up_to-append : (x : ℕ) (xs ys : List ℕ) → up_to x (xs ++ ys) ≡ up_to x xs + up_to x ys
up_to-append x [] ys = omega arith
up_to-append x (y ∷ xs) ys = omega (arith, up_to-append x xs ys)

same_le : (y x : ℕ) → bit (eqb y x) ≤ bit (leb y x)
same_le y x = grind (arith, nat_tests)

occurrences_le_up_to : (x : ℕ) (xs : List ℕ) → occurrences x xs ≤ up_to x xs
occurrences_le_up_to x [] = omega arith
occurrences_le_up_to x (y ∷ ys) = omega (arith, occurrences_le_up_to x ys, same_le y x)

pub at_least : {n x : ℕ} → (x < n → ⊥) → n ≤ x
at_least h = omega arith

none_total : {A : Type 0} (f h : A → ℕ) (xs : List A) → ((x : A) → h x ≡ 0 → f x ≡ 0) → total h xs ≡ 0 → total f xs ≡ 0
none_total f h [] k e = refl
none_total f h (x ∷ xs) k e = let a = k x (omega arith) in omega (arith, none_total f h xs k (omega arith))

-- if one element has all of h, it has all of f
pub all_at : {A : Type 0} (f h : A → ℕ) (xs : List A) (i : ℕ) (x : A) → ((y : A) → h y ≡ 0 → f y ≡ 0)
    → get_elem? xs i ≡ some x → total h xs ≡ h x → total f xs ≡ f x
all_at f h [] i x k at e = absurd (some-ne-none x (sym at))
all_at f h (y ∷ ys) zero x k at e = let q : h y ≡ h x = ap h (some-injective y x at) in
    let r : f y ≡ f x = ap f (some-injective y x at) in omega (arith, none_total f h ys k (omega arith))
all_at f h (y ∷ ys) (suc i) x k at e = let m = at_most_total h ys i x at in
    let a = k y (omega arith) in omega (arith, all_at f h ys i x k at (omega arith))

pub bit_eq : (a b : ℕ) → a ≡ b → bit (eqb a b) ≡ 1
bit_eq a b e = ap bit (eq-eqb a b e)

pub bit_ne : (a b : ℕ) → a ≢ b → bit (eqb a b) ≡ 0
bit_ne a b e = ap bit (ne_eqb a b e)

pub bit_le : (k x : ℕ) → k ≤ x → bit (leb k x) ≡ 1
bit_le k x h = grind (arith, nat_tests)

pub bit_not_le : (k x : ℕ) → x < k → bit (leb k x) ≡ 0
bit_not_le k x h = grind (arith, nat_tests)

pub least_most : (xs : List ℕ) → least_of xs ≤ nothing_bad
least_most [] = omega arith
least_most (x ∷ xs) = omega (arith, least_most xs)

pub none_less_than_least : (x : ℕ) (xs : List ℕ) → x < least_of xs → up_to x xs ≡ 0
none_less_than_least x [] h = refl
none_less_than_least x (y ∷ ys) h = let a = none_less_than_least x ys (omega arith) in
    omega (arith, bit_not_le y x (omega arith))

pub least_there : (x : ℕ) (xs : List ℕ) → least_of xs ≤ x → x < nothing_bad → 0 < up_to x xs
least_there x [] h lt = absurd (omega arith)
least_there x (y ∷ ys) h lt = dite (dec_lt x y) (λ less. omega (arith, least_there x ys (omega arith) lt))
    (λ more. omega (arith, bit_le y x (omega arith)))

-- the least number that was reported
pub least_is : (n : ℕ) (xs : List ℕ) → n ≤ nothing_bad → ((x : ℕ) → x < nothing_bad → n ≤ x → 0 < up_to x xs)
    → ((x : ℕ) → x < n → up_to x xs ≡ 0) → n ≡ least_of xs
least_is n xs most some_there none = let m = least_most xs in
    let up : n ≤ least_of xs → (n < least_of xs → ⊥) → n ≡ least_of xs = λ a b. omega arith in
    up (at_least (λ less. let a = none (least_of xs) less in
    omega (arith, least_there (least_of xs) xs (omega arith) (omega arith))))
    (λ less. omega (arith, some_there n (omega arith) (omega arith), none_less_than_least n xs less))

pub stands : (xs : List ℕ) (i : ℕ) → i < length xs → 0 < occurrences (get_or xs i 0) xs
stands [] i lt = absurd (omega arith)
stands (x ∷ xs) zero lt = omega (arith, bit_eq x x refl)
stands (x ∷ xs) (suc i) lt = omega (arith, stands xs i (omega arith))

pub below_one : (b n blocks : ℕ) (xs : List ℕ) → (0 < occurrences b xs → b < blocks) → n < blocks
    → 0 < occurrences b (xs ++ n ∷ []) → b < blocks
below_one b n blocks xs was lt some_there = let a = occurrences-append b xs (n ∷ []) in
    dite (ℕ_discrete n b) (λ is. omega arith) (λ isnt. let z = bit_ne n b isnt in was (omega arith))

pub each_push : {A : Type 0} (P : ℕ → A → Type 0) (xs : List A) (x : A)
    → ((k : ℕ) (d : A) → k < length xs → P k (get_or xs k d)) → P (length xs) x → (k : ℕ) (d : A)
    → k < length (xs ++ x ∷ []) → P k (get_or (xs ++ x ∷ []) k d)
each_push P [] x h p zero d lt = p
each_push P [] x h p (suc k) d lt = absurd (omega arith)
each_push P (y ∷ ys) x h p zero d lt = h zero d (omega arith)
each_push P (y ∷ ys) x h p (suc k) d lt = each_push (λ k z. P (suc k) z) ys x
    (λ k d l. h (suc k) d (omega arith)) p k d (omega arith)

pub at_middle : {A : Type 0} (xs ys : List A) (x d : A) → get_or (xs ++ x ∷ ys) (length xs) d ≡ x
at_middle [] ys x d = refl
at_middle (z ∷ zs) ys x d = at_middle zs ys x d

-- the next of a list stands behind those that came before it
pub next_is : {A : Type 0} (all xs rest : List A) (x : A) → all ≡ xs ++ x ∷ rest → get_or all (length xs) x ≡ x
next_is all xs rest x e = ap (λ l. get_or l (length xs) x) e ∙ at_middle xs rest x x

pub next_in : {A : Type 0} (all xs rest : List A) (x : A) → all ≡ xs ++ x ∷ rest → length xs < length all
next_in all xs rest x e = omega (arith, ap length e, length-append xs (x ∷ rest))

pub append_one : {A : Type 0} (xs ys : List A) (x : A) → (xs ++ x ∷ []) ++ ys ≡ xs ++ x ∷ ys
append_one [] ys x = refl
append_one (z ∷ zs) ys x = ap (λ l. z ∷ l) (append_one zs ys x)

pub nil_is : {A : Type 0} (xs : List A) → length xs ≡ 0 → xs ≡ []
nil_is [] e = refl
nil_is (x ∷ xs) e = absurd (omega arith)

-- nothing is left behind those that came
pub none_left : {A : Type 0} (all xs rest : List A) → all ≡ xs ++ rest → length rest ≡ 0 → xs ≡ all
none_left all xs rest e none = sym (e ∙ ap (λ l. xs ++ l) (nil_is rest none) ∙ append-nil xs)

pub map-one : {A B : Type 0} (f : A → B) (xs : List A) (x : A) → map f (xs ++ x ∷ []) ≡ map f xs ++ f x ∷ []
map-one f [] x = refl
map-one f (y ∷ ys) x = ap (λ l. f y ∷ l) (map-one f ys x)

pub get_or-map : {A B : Type 0} (f : A → B) (xs : List A) (k : ℕ) (d : A) (e : B) → k < length xs
    → get_or (map f xs) k e ≡ f (get_or xs k d)
get_or-map f [] k d e lt = absurd (omega arith)
get_or-map f (x ∷ xs) zero d e lt = refl
get_or-map f (x ∷ xs) (suc k) d e lt = get_or-map f xs k d e (omega arith)

pub length-map_is : {A B : Type 0} (f : A → B) (xs : List A) → length (map f xs) ≡ length xs
length-map_is f [] = refl
length-map_is f (x ∷ xs) = omega (arith, length-map_is f xs)

pub word_at : (ws : List ℕ) (i w : ℕ) → get_elem? ws i ≡ some w → get_or ws i 0 ≡ w
word_at [] i w e = absurd (some-ne-none w (sym e))
word_at (x ∷ xs) zero w e = some-injective x w e
word_at (x ∷ xs) (suc i) w e = word_at xs i w e

pub some_item : {A : Type 0} (xs : List A) → 0 < length xs → A
some_item [] h = absurd (omega arith)
some_item (x ∷ xs) h = x

-- within a list the default does not count
pub get_or_within : {A : Type 0} (xs : List A) (k : ℕ) (d e : A) → k < length xs → get_or xs k d ≡ get_or xs k e
get_or_within [] k d e lt = absurd (omega arith)
get_or_within (x ∷ xs) zero d e lt = refl
get_or_within (x ∷ xs) (suc k) d e lt = get_or_within xs k d e (omega arith)

-- no number of the list is less than n
pub all_at_most : (n : ℕ) (xs : List ℕ) → ((x : ℕ) → x < n → up_to x xs ≡ 0) → All (λ x. n ≤ x) xs
all_at_most n xs none k d lt = let x : ℕ = get_or xs k d in
    let same : get_or xs k 0 ≡ get_or xs k d = get_or_within xs k 0 d lt in
    let there = stands xs k lt in
    let p = occurrences_le_up_to (get_or xs k 0) xs in at_least (λ less. omega (arith, none (get_or xs k 0) (omega arith)))

-- no number of the list is below n, so none is at most a lesser one
pub none_up_to : (n x : ℕ) (xs : List ℕ) → x < n → All (λ number. n ≤ number) xs → up_to x xs ≡ 0
none_up_to n x [] less h = refl
none_up_to n x (y ∷ ys) less h = let a = h 0 y (omega arith) in
    let b = bit_not_le y x (omega arith) in omega (arith, none_up_to n x ys less (λ k d lt. h (suc k) d (omega arith)))

-- what holds at each index of a list holds of each number in it
pub each_of_all : (n : ℕ) (xs : List ℕ) → All (λ x. n ≤ x) xs → (x : ℕ) → 0 < occurrences x xs → n ≤ x
each_of_all n [] h x there = absurd (omega arith)
each_of_all n (y ∷ ys) h x there = dite (ℕ_discrete y x) (λ is. omega (arith, h 0 y (omega arith)))
    (λ isnt. let z = bit_ne y x isnt in each_of_all n ys (λ k d lt. h (suc k) d (omega arith)) x (omega arith))

-- an item for each index below n, each with its fact, makes a list
pub choose : {A : Type 0} (P : ℕ → A → Type 0) (n : ℕ) → ((k : ℕ) → k < n → (x : A) × P k x) → (xs : List A)
    × (length xs ≡ n) × ((k : ℕ) (d : A) → k < n → P k (get_or xs k d))
choose P zero h = ([], refl, λ k d lt. absurd (omega arith))
choose {A} P (suc n) h = let before = choose P n (λ k lt. h k (omega arith)) in
    let last = h n (omega arith) in
    let xs : List A = before.0 in
    let count : length xs ≡ n = before.1 in
    let long = length-append xs (last.0 ∷ []) in
    let At : ℕ → Type 0 = λ k. P k last.0 in (
      xs ++ last.0 ∷ [],
      omega arith,
      λ k d lt. each_push P xs last.0
          (λ j e less. before.2 j e (omega arith)) (subst At (sym count) last.1) k d (omega arith),
    )

-- a sum over a list is the sum over all numbers below n, each as often as it stands there
pub sum_below_add : (n : ℕ) (f g h : ℕ → ℕ) → ((b : ℕ) → b < n → h b ≡ f b + g b)
    → sum_below n h ≡ sum_below n f + sum_below n g
sum_below_add zero f g h e = refl
sum_below_add (suc n) f g h e = let a = sum_below_add n f g h (λ b lt. e b (omega arith)) in
    omega (arith, e n (omega arith))

pub sum_below_same : (n : ℕ) (f g : ℕ → ℕ) → ((b : ℕ) → b < n → f b ≡ g b) → sum_below n f ≡ sum_below n g
sum_below_same zero f g e = refl
sum_below_same (suc n) f g e = let a = sum_below_same n f g (λ b lt. e b (omega arith)) in
    omega (arith, e n (omega arith))

pub sum_below_none : (n : ℕ) (f : ℕ → ℕ) → ((b : ℕ) → b < n → f b ≡ 0) → sum_below n f ≡ 0
sum_below_none zero f e = refl
sum_below_none (suc n) f e = let a = sum_below_none n f (λ b lt. e b (omega arith)) in omega (arith, e n (omega arith))

pub sum_below_at : (n x : ℕ) (f : ℕ → ℕ) → x < n → sum_below n (λ b. bit (eqb x b) * f b) ≡ f x
sum_below_at zero x f lt = absurd (omega arith)
sum_below_at (suc n) x f lt = dite (ℕ_discrete x n)
    (λ is. let one_here = bit_eq x n is in
    let here : bit (eqb x n) * f n ≡ f n = rw one_here (omega arith) in
    let same = ap f is in omega (
      arith,
      sum_below_none n (λ b. bit (eqb x b) * f b)
          (λ b less. let z : bit (eqb x b) ≡ 0 = bit_ne x b (λ e. omega arith) in rw z (omega arith)),
    ))
    (λ isnt. let none_here = bit_ne x n isnt in
    let here : bit (eqb x n) * f n ≡ 0 = rw none_here (omega arith) in
    omega (arith, sum_below_at n x f (omega arith)))

pub mul_add : (m n k : ℕ) → (m + n) * k ≡ m * k + n * k
mul_add m n k = omega arith

-- a sum over numbers below n, each as often as it stands in the list
pub total_by_occurrences : (n : ℕ) (f : ℕ → ℕ) (xs : List ℕ) → ((x : ℕ) → 0 < occurrences x xs → x < n)
    → total f xs ≡ sum_below n (λ b. occurrences b xs * f b)
total_by_occurrences n f [] h = sym (sum_below_none n (λ b. 0 * f b) (λ b lt. omega arith))
total_by_occurrences n f (x ∷ xs) h = let here = bit_eq x x refl in
    let rest = total_by_occurrences n f xs (λ y there. h y (omega arith)) in
    omega (
      arith,
      sum_below_at n x f (h x (omega arith)),
      sum_below_add n (λ b. bit (eqb x b) * f b) (λ b. occurrences b xs * f b) (λ b. occurrences b (x ∷ xs) * f b)
          (λ b lt. mul_add (bit (eqb x b)) (occurrences b xs) (f b)),
    )
