-- The digits from an index on, and the number that they stand for.
use Rattle.std.proofs.Common.{◌≡◌, ℕ, zero, suc, ◌+◌, ◌-◌, ◌*◌, ◌/◌, ◌%◌, ◌^◌, ◌<◌, ◌≤◌, ◌==◌, Bool, true, false, cond, List, [], ◌∷◌, length, drop, set, get_or, replicate, ◌⊎◌, inl, inr, Option, Some, None, position, refl, sym, ap, ap₂, ◌∙◌, arith, mul-pos, eqb-true, add-one, zero-mul, mul-zero, mod-lt}
use Rattle.std.specs.List.{position_from}
use Rattle.std.proofs.lemmas.Iterator.Adapters.{position_from-zero}
use Rattle.std.proofs.lemmas.Bool.Decides.{nat_tests}
use Rattle.std.proofs.lemmas.List.{drop_more, drop-set}
use Rattle.std.proofs.Math.Nat.{div-add-mod}
use Rattle.std.proofs.Math.Seq.{drop-length}
use Rattle.lists.specs.Digits.{product_of, joined, split, AreDigits}
use Rattle.lists.proofs.Digits.{split-joined}

-- ---- zeros among the bases
zero_found : (bs : List ℕ) (i p : ℕ) → position_from (λ b. b == 0) i bs ≡ Some p → product_of bs ≡ 0
zero_found [] i p h = cc
zero_found (b ∷ bs) i p h = step (b == 0) b (product_of bs) i p (position_from (λ b. b == 0) (i + 1) bs) refl h (zero_found bs (i + 1) p)
  where
    step : (t : Bool) (b q i p : ℕ) (r : Option ℕ) → (b == 0) ≡ t → cond t (Some i) r ≡ Some p → (r ≡ Some p → q ≡ 0) → b * q ≡ 0
    step true b q i p r e h k = ap (λ x. x * q) (eqb-true b 0 e) ∙ zero-mul q
    step false b q i p r e h k = ap (λ x. b * x) (k h) ∙ mul-zero b

no_zero_found : (bs : List ℕ) (i : ℕ) → position_from (λ b. b == 0) i bs ≡ None → 0 < product_of bs
no_zero_found [] i h = omega arith
no_zero_found (b ∷ bs) i h = step (b == 0) b (product_of bs) i (position_from (λ b. b == 0) (i + 1) bs) refl h (no_zero_found bs (i + 1))
  where
    positive : (b : ℕ) → (b == 0) ≡ false → 0 < b
    positive b e = grind (arith, nat_tests)

    step : (t : Bool) (b q i : ℕ) (r : Option ℕ) → (b == 0) ≡ t → cond t (Some i) r ≡ None → (r ≡ None → 0 < q) → 0 < b * q
    step true b q i r e h k = cc
    step false b q i r e h k = mul-pos (positive b e) (k h)

zero_within : (bs : List ℕ) (i p : ℕ) → position_from (λ b. b == 0) i bs ≡ Some p → p < i + length bs
zero_within [] i p h = cc
zero_within (b ∷ bs) i p h = step (b == 0) i p (length bs) (position_from (λ b. b == 0) (i + 1) bs) h (zero_within bs (i + 1) p)
  where
    some_is : {a b : ℕ} → Some a ≡ Some b → a ≡ b
    some_is e = cc

    step : (t : Bool) (i p n : ℕ) (r : Option ℕ) → cond t (Some i) r ≡ Some p → (r ≡ Some p → p < i + 1 + n) → p < i + suc n
    step true i p n r h k = let e : i ≡ p = some_is h in omega arith
    step false i p n r h k = let l = k h in omega arith

by_steps : (bs : List ℕ) (r : Option ℕ) → r ≡ position (λ b. b == 0) bs → position_from (λ b. b == 0) 0 bs ≡ r
by_steps bs r h = sym (h ∙ position_from-zero (λ b. b == 0) bs)

-- a list with a zero has the product 0
pub product-first_zero : (bs : List ℕ) (p : ℕ) → Some p ≡ position (λ b. b == 0) bs → product_of bs ≡ 0
product-first_zero bs p h = zero_found bs 0 p (by_steps bs (Some p) h)

-- a list without a zero has a positive product
pub product_positive : (bs : List ℕ) → None ≡ position (λ b. b == 0) bs → 0 < product_of bs
product_positive bs h = no_zero_found bs 0 (by_steps bs None h)

-- ---- one base more
pub product-drop : (bs : List ℕ) (i : ℕ) → i < length bs → product_of (drop i bs) ≡ get_or bs i 0 * product_of (drop (i + 1) bs)
product-drop bs i h = ap product_of (drop_more bs i 0 h)

joined-cons : (bs xs : List ℕ) (i x : ℕ) (rest : List ℕ) → i < length bs → drop i xs ≡ x ∷ rest
    → joined (drop i bs) (drop i xs) ≡ x * product_of (drop (i + 1) bs) + joined (drop (i + 1) bs) rest
joined-cons bs xs i x rest h e = ap₂ joined (drop_more bs i 0 h) e

-- the product from an index on is positive if the whole product is
pub product-drop_positive : (bs : List ℕ) (i : ℕ) → 0 < product_of bs → 0 < product_of (drop i bs)
product-drop_positive bs zero h = h
product-drop_positive [] (suc i) h = h
product-drop_positive (b ∷ bs) (suc i) h = product-drop_positive bs i (factor b (product_of bs) h)
  where
    factor : (b q : ℕ) → 0 < b * q → 0 < q
    factor b zero h = rw mul-zero at h
    factor b (suc q) h = omega arith

pub base_positive : (bs : List ℕ) (i : ℕ) → 0 < product_of bs → i < length bs → 0 < get_or bs i 0
base_positive [] i h k = absurd (omega arith)
base_positive (b ∷ bs) zero h k = factor b (product_of bs) h
  where
    factor : (b q : ℕ) → 0 < b * q → 0 < b
    factor zero q h = let z = zero-mul q in omega arith
    factor (suc b) q h = omega arith
base_positive (b ∷ bs) (suc i) h k = base_positive bs i (factor b (product_of bs) h) (omega arith)
  where
    factor : (b q : ℕ) → 0 < b * q → 0 < q
    factor b zero h = rw mul-zero at h
    factor b (suc q) h = omega arith

-- the product of all bases is above a limit if that of the first ones is
pub product_above : (m n b q p : ℕ) → p ≡ n * (b * q) → 0 < p → m < n * b → m < p
product_above m n b zero p e some h = absurd (let z = mul-zero b in omega (arith, ap (λ z. n * z) z))
product_above m n b (suc q) p e some h = omega arith

-- ---- digits
pub length-digits : (bs xs : List ℕ) → AreDigits bs xs → length xs ≡ length bs
length-digits [] [] h = refl
length-digits [] (x ∷ xs) h = absurd h
length-digits (b ∷ bs) [] h = absurd h
length-digits (b ∷ bs) (x ∷ xs) h = ap suc (length-digits bs xs h.1)

pub digit_below : (bs xs : List ℕ) (i : ℕ) → AreDigits bs xs → i < length bs → get_or xs i 0 < get_or bs i 0
digit_below [] xs i h k = absurd (omega arith)
digit_below (b ∷ bs) [] i h k = absurd h
digit_below (b ∷ bs) (x ∷ xs) zero h k = h.0
digit_below (b ∷ bs) (x ∷ xs) (suc i) h k = digit_below bs xs i h.1 (omega arith)

pub digits-set : (bs xs : List ℕ) (i x : ℕ) → AreDigits bs xs → x < get_or bs i 0 → AreDigits bs (set xs i x)
digits-set [] [] i x h k = tt
digits-set [] (y ∷ xs) i x h k = absurd h
digits-set (b ∷ bs) [] i x h k = absurd h
digits-set (b ∷ bs) (y ∷ xs) zero x h k = (k, h.1)
digits-set (b ∷ bs) (y ∷ xs) (suc i) x h k = (h.0, digits-set bs xs i x h.1 k)

joined-set_suc : (bs xs : List ℕ) (i x : ℕ) → AreDigits bs xs → i < length bs
    → joined bs (set xs i x) + get_or xs i 0 * product_of (drop (suc i) bs) ≡ joined bs xs + x * product_of (drop (suc i) bs)
joined-set_suc [] xs i x h k = absurd (omega arith)
joined-set_suc (b ∷ bs) [] i x h k = absurd h
joined-set_suc (b ∷ bs) (y ∷ xs) zero x h k = omega arith
joined-set_suc (b ∷ bs) (y ∷ xs) (suc i) x h k = omega (arith, joined-set_suc bs xs i x h.1 (omega arith))

-- a digit counts as often as there are numbers of the places after it
pub joined-set : (bs xs : List ℕ) (i x : ℕ) → AreDigits bs xs → i < length bs
    → joined bs (set xs i x) + get_or xs i 0 * product_of (drop (i + 1) bs) ≡ joined bs xs + x * product_of (drop (i + 1) bs)
joined-set bs xs i x h k = rw add-one (joined-set_suc bs xs i x h k)

-- ---- splitting
-- the digits from an index on, and what is left of the number for the digits before it
pub record IsSplitFrom (bs xs : List ℕ) (k rest i : ℕ) : Type 0 where
  pub number : k ≡ rest * product_of (drop i bs) + joined (drop i bs) (drop i xs)
  pub digits : AreDigits (drop i bs) (drop i xs)

pub split_start : (bs xs : List ℕ) (k i : ℕ) → i ≡ length bs → length xs ≡ length bs → IsSplitFrom bs xs k k i
split_start bs xs k i e f = record {
  number = ends (drop i bs) (drop i xs) (none bs i e) (none xs i (e ∙ sym f));
  digits = no_digits (drop i bs) (drop i xs) (none bs i e) (none xs i (e ∙ sym f));
}
  where
    none : (l : List ℕ) (i : ℕ) → i ≡ length l → drop i l ≡ []
    none l i e = ap (λ j. drop j l) e ∙ drop-length l

    ends : (cs ds : List ℕ) → cs ≡ [] → ds ≡ [] → k ≡ k * product_of cs + joined cs ds
    ends cs ds p q = rw p (omega arith)

    no_digits : (cs ds : List ℕ) → cs ≡ [] → ds ≡ [] → AreDigits cs ds
    no_digits cs ds p q = rw (p, q) tt

pub split_step : (bs xs : List ℕ) (k rest i p : ℕ) → i ≡ p + 1 → p < length bs → length xs ≡ length bs → 0 < product_of bs → IsSplitFrom bs xs k rest i
    → IsSplitFrom bs (set xs p (rest % get_or bs p 0)) k (rest / get_or bs p 0) p
split_step bs xs k rest i p e h f some s = record {
  number = count (product_of (drop p bs)) (product_of (drop i bs)) (joined (drop i bs) (drop i xs)) (joined (drop p bs) (drop p ys)) (get_or bs p 0)
      (rw e (product-drop bs p h)) (rw e (joined-cons bs ys p (rest % get_or bs p 0) (drop (p + 1) xs) h written)) s.number;
  digits = rw (drop_more bs p 0 h, written) (mod-lt rest (base_positive bs p some h), rw e at s.digits);
}
  where
    ys : List ℕ
    ys = set xs p (rest % get_or bs p 0)

    written : drop p ys ≡ rest % get_or bs p 0 ∷ drop (p + 1) xs
    written = drop-set xs p (rest % get_or bs p 0) (omega arith)

    count : (q q' j j' b : ℕ) → q ≡ b * q' → j' ≡ rest % b * q' + j → k ≡ rest * q' + j → k ≡ rest / b * q + j'
    count q q' j j' b e f g = omega (arith, ap (λ z. z * q') (div-add-mod rest b), ap (λ z. rest / b * z) e)

pub split_end : (bs xs : List ℕ) (k rest i : ℕ) → i ≡ 0 → k < product_of bs → IsSplitFrom bs xs k rest i → AreDigits bs xs × (joined bs xs ≡ k)
split_end bs xs k rest i e h s = (rw e at s.digits, none rest (product_of bs) (joined bs xs) h (rw e at s.number))
  where
    none : (rest q j : ℕ) → k < q → k ≡ rest * q + j → j ≡ k
    none zero q j h e = omega arith
    none (suc rest) q j h e = absurd (omega arith)

-- ---- joining
-- the number of the digits so far, and the digits that are left
pub record IsJoinedUpTo (bs xs : List ℕ) (n : ℕ) (cs ds : List ℕ) : Type 0 where
  pub number : joined bs xs ≡ n * product_of cs + joined cs ds
  pub digits : AreDigits cs ds
  pub positive : 0 < product_of cs
  pub limited : joined bs xs < 2 ^ 40

pub record JoinsNext (bs xs : List ℕ) (n b x : ℕ) (cs ds : List ℕ) : Type 0 where
  pub product_limited : n * b < 2 ^ 40
  pub sum_limited : n * b + x < 2 ^ 40
  pub next : IsJoinedUpTo bs xs (n * b + x) cs ds

pub join_start : (bs xs cs ds : List ℕ) → cs ≡ bs → ds ≡ xs → 0 < product_of bs → product_of bs ≤ 2 ^ 40 → AreDigits bs xs → IsJoinedUpTo bs xs 0 cs ds
join_start bs xs cs ds p q some most h = rw (p, q) (record {
  number = omega arith;
  digits = h;
  positive = some;
  limited = (let b = (split-joined bs xs h).0 in omega arith);
})

pub join_step : (bs xs : List ℕ) (n b x : ℕ) (cs' ds' cs ds : List ℕ) → cs' ≡ b ∷ cs → ds' ≡ x ∷ ds → IsJoinedUpTo bs xs n cs' ds' → JoinsNext bs xs n b x cs ds
join_step bs xs n b x cs' ds' cs ds p q s = step (rw (p, q) at s)
  where
    bound : (m q j : ℕ) → 0 < q → m * q + j < 2 ^ 40 → m < 2 ^ 40
    bound m zero j h k = absurd (omega arith)
    bound m (suc q) j h k = omega arith

    factor : (b q : ℕ) → 0 < b * q → 0 < q
    factor b zero h = rw mul-zero at h
    factor b (suc q) h = omega arith

    step : IsJoinedUpTo bs xs n (b ∷ cs) (x ∷ ds) → JoinsNext bs xs n b x cs ds
    step s =
        let some = factor b (product_of cs) s.positive in
        let e : joined bs xs ≡ (n * b + x) * product_of cs + joined cs ds = (let n = s.number in omega arith) in
        let sum : n * b + x < 2 ^ 40 = bound (n * b + x) (product_of cs) (joined cs ds) some (let l = s.limited in omega arith) in
        record {
          product_limited = omega arith;
          sum_limited = sum;
          next = record { number = e; digits = s.digits.1; positive = some; limited = s.limited };
        }

-- what the digits stand for, when none is left
pub record IsJoined (bs xs : List ℕ) (n : ℕ) : Type 0 where
  pub value : n ≡ joined bs xs
  pub below : n < product_of bs
  pub back : split bs n ≡ xs

pub join_end : (bs xs : List ℕ) (n : ℕ) (cs ds : List ℕ) → (length cs ≡ 0) ⊎ (length ds ≡ 0) → AreDigits bs xs → IsJoinedUpTo bs xs n cs ds → IsJoined bs xs n
join_end bs xs n (c ∷ cs) ds (inl e) h s = absurd (omega arith)
join_end bs xs n (c ∷ cs) ds (inr e) h s = absurd (let l = length-digits (c ∷ cs) ds s.digits in omega arith)
join_end bs xs n [] ds e h s =
    let all = split-joined bs xs h in
    let same : n ≡ joined bs xs = (let m = s.number in omega arith) in
    record { value = same; below = rw same all.0; back = ap (split bs) same ∙ all.1 }

-- ---- going on
-- the number with zeros from an index on, to which all numbers of these digits and one more are still to be added
pub record IsCarriedTo (bs old xs : List ℕ) (i : ℕ) : Type 0 where
  pub number : joined bs old + 1 ≡ joined bs xs + product_of (drop i bs)
  pub digits : AreDigits bs xs
  pub zeros : drop i xs ≡ replicate (length bs - i) 0

pub carry_start : (bs old : List ℕ) (i : ℕ) → i ≡ length bs → AreDigits bs old → IsCarriedTo bs old old i
carry_start bs old i e h = record {
  number = ap (λ p. joined bs old + p) (sym (ap product_of (ap (λ j. drop j bs) e ∙ drop-length bs)));
  digits = h;
  zeros = ap (λ j. drop j old) (e ∙ sym (length-digits bs old h)) ∙ drop-length old ∙ ap (λ n. replicate n 0) (let z : 0 ≡ length bs - i = omega arith in z);
}

-- a digit that is the greatest one of its base becomes 0
pub carry_step : (bs old xs : List ℕ) (i p : ℕ) → i ≡ p + 1 → p < length bs → get_or bs p 0 ≤ get_or xs p 0 + 1 → IsCarriedTo bs old xs i → IsCarriedTo bs old (set xs p 0) p
carry_step bs old xs i p e h top s =
    let below = digit_below bs xs p s.digits h in
    record {
      number = count (get_or bs p 0) (get_or xs p 0) (product_of (drop p bs)) (product_of (drop i bs)) (joined bs xs) (joined bs (set xs p 0)) (joined bs old)
          (omega arith) (rw e (product-drop bs p h)) (rw e (joined-set bs xs p 0 s.digits h)) s.number;
      digits = digits-set bs xs p 0 s.digits (omega arith);
      zeros = drop-set xs p 0 (let l = length-digits bs xs s.digits in omega arith) ∙ ap (λ l. 0 ∷ l) (rw e at s.zeros) ∙ again (length bs - (p + 1)) (length bs - p) (omega arith);
    }
  where
    count : (b x q q' j j' k : ℕ) → x + 1 ≡ b → q ≡ b * q' → j' + x * q' ≡ j + 0 * q' → k + 1 ≡ j + q' → k + 1 ≡ j' + q
    count b x q q' j j' k e f g h = omega (arith, ap (λ z. z * q') e)

    again : (m n : ℕ) → n ≡ suc m → 0 ∷ replicate {A = ℕ} m 0 ≡ replicate n 0
    again m n e = sym (ap (λ k. replicate {A = ℕ} k 0) e)

-- a digit that has a next one is raised, and that is the next number
pub carry_end : (bs old xs : List ℕ) (i p : ℕ) → i ≡ p + 1 → p < length bs → get_or xs p 0 + 1 < get_or bs p 0 → IsCarriedTo bs old xs i
    → AreDigits bs (set xs p (get_or xs p 0 + 1)) × (joined bs (set xs p (get_or xs p 0 + 1)) ≡ joined bs old + 1)
carry_end bs old xs i p e h less s = (
  digits-set bs xs p (get_or xs p 0 + 1) s.digits less,
  count (get_or xs p 0) (product_of (drop i bs)) (joined bs xs) (joined bs (set xs p (get_or xs p 0 + 1))) (joined bs old)
      (rw e (joined-set bs xs p (get_or xs p 0 + 1) s.digits h)) s.number,
)
  where
    count : (x q j j' k : ℕ) → j' + x * q ≡ j + (x + 1) * q → k + 1 ≡ j + q → j' ≡ k + 1
    count x q j j' k e f = omega arith

-- without a next number all digits are 0
pub carry_through : (bs old xs : List ℕ) (i : ℕ) → i ≡ 0 → IsCarriedTo bs old xs i → (product_of bs ≤ joined bs old + 1) × (xs ≡ replicate (length bs) 0)
carry_through bs old xs i e s = step (rw e at s)
  where
    step : IsCarriedTo bs old xs 0 → (product_of bs ≤ joined bs old + 1) × (xs ≡ replicate (length bs) 0)
    step s = ((let n = s.number in omega arith), s.zeros ∙ ap (λ n. replicate n 0) (let same : length bs - 0 ≡ length bs = omega arith in same))
