-- The digits of the next number, from the least significant one on: a digit that is less than its base less 1 goes up,
-- and one that is the greatest goes back to 0 and carries over. Several lists of digits, one after the other, go on
-- likewise.
use Rattle.std.proofs.Common.{◌≡◌, ℕ, zero, suc, ◌+◌, ◌-◌, ◌*◌, ◌<◌, ◌≤◌, Bool, true, false, List, [], ◌∷◌, ◌++◌, length, get_or, set, replicate, refl, sym, ap, ◌∙◌, subst, arith, All}
use Rattle.std.proofs.lemmas.List.{length-replicate, get_or-replicate}
use Rattle.std.proofs.lemmas.List.Elements.{All-from_get_or}
use Rattle.lists.specs.Digits.{AreDigits, joined, product_of}
use Rattle.lists.proofs.Digits.{split-joined}
use Rattle.mixed_radix.proofs.Suffixes.{IsCarriedTo, carry_step, carry_end, carry_through, length-digits, digit_below}
use Rattle.decorated_tree.specs.Following.{GoOn, colour_bases}
use Rattle.lists.proofs.Digits.{digits_join}

-- ---- a word of letters
-- the letters from the index on are 0, and the number of these letters plus the number of words that could stand there
-- is that of the old letters plus 1
abbrev pub IsCounted : ℕ → List ℕ → List ℕ → ℕ → Type 0
IsCounted base old letters place = IsCarriedTo (replicate (length old) base) old letters place

pub letter_below : (base : ℕ) (old letters : List ℕ) (place i : ℕ) → i < length old → IsCounted base old letters place
    → get_or letters i 0 < base
letter_below base old letters place i h s =
    let long = length-replicate (length old) base in
    subst (λ z. get_or letters i 0 < z) (get_or-replicate (length old) i base 0 h)
    (digit_below (replicate (length old) base) letters i s.digits (omega arith))

pub counted_on : (base : ℕ) (old letters : List ℕ) (place i : ℕ) → place ≡ i + 1 → i < length old
    → base ≤ get_or letters i 0 + 1 → IsCounted base old letters place
    → IsCounted base old (set letters i 0) i
counted_on base old letters place i e h top s =
    let long = length-replicate (length old) base in
    let same = get_or-replicate (length old) i base 0 h in
    carry_step (replicate (length old) base) old letters place i e (omega arith) (omega arith) s

pub counted_next : (base : ℕ) (old letters : List ℕ) (place i : ℕ) → place ≡ i + 1 → i < length old
    → get_or letters i 0 + 1 < base → IsCounted base old letters place
    → GoOn (replicate (length old) base) old (set letters i (get_or letters i 0 + 1)) true
counted_next base old letters place i e h less s =
    let long = length-replicate (length old) base in
    let same = get_or-replicate (length old) i base 0 h in
    carry_end (replicate (length old) base) old letters place i e (omega arith) (omega arith) s

joined-zeros : (bases : List ℕ) (k : ℕ) → joined bases (replicate k 0) ≡ 0
joined-zeros [] zero = refl
joined-zeros [] (suc k) = refl
joined-zeros (b ∷ bases) zero = refl
joined-zeros (b ∷ bases) (suc k) = let e = joined-zeros bases k in omega arith

pub counted_through : (base : ℕ) (old letters : List ℕ) (place : ℕ) → place ≡ 0
    → AreDigits (replicate (length old) base) old → IsCounted base old letters place
    → GoOn (replicate (length old) base) old letters false
counted_through base old letters place e h s =
    let bases = replicate (length old) base in
    let end = carry_through bases old letters place e s in
    let most = end.0 in
    let below = (split-joined bases old h).0 in
    (s.digits, ap (joined bases) end.1 ∙ joined-zeros bases (length bases), omega arith)

-- ---- lists of digits one after the other
product-append : (as' bs : List ℕ) → product_of (as' ++ bs) ≡ product_of as' * product_of bs
product-append [] bs = omega arith
product-append (a ∷ as') bs = times a (product_of as') (product_of bs) (product_of (as' ++ bs)) (product-append as' bs)
  where
    times : (a p q r : ℕ) → r ≡ p * q → a * r ≡ a * p * q
    times a p q r e = omega (arith, ap (λ z. a * z) e)

joined-append : (as' bs xs ys : List ℕ) → length as' ≡ length xs
    → joined (as' ++ bs) (xs ++ ys) ≡ joined as' xs * product_of bs + joined bs ys
joined-append [] bs [] ys e = omega arith
joined-append [] bs (x ∷ xs) ys e = absurd (omega arith)
joined-append (a ∷ as') bs [] ys e = absurd (omega arith)
joined-append (a ∷ as') bs (x ∷ xs) ys e =
    plus x (product_of (as' ++ bs)) (product_of as') (product_of bs) (joined as' xs) (joined bs ys) _
    (product-append as' bs) (joined-append as' bs xs ys (omega arith))
  where
    plus : (x r p q j k l : ℕ) → r ≡ p * q → l ≡ j * q + k → x * r + l ≡ (x * p + j) * q + k
    plus x r p q j k l e f = omega (arith, ap (λ z. x * z) e)

pub digits_part : (bs cs xs ys : List ℕ) → length bs ≡ length xs → AreDigits (bs ++ cs) (xs ++ ys)
    → AreDigits bs xs × AreDigits cs ys
digits_part [] cs [] ys e h = (tt, h)
digits_part [] cs (x ∷ xs) ys e h = absurd (omega arith)
digits_part (b ∷ bs) cs [] ys e h = absurd (omega arith)
digits_part (b ∷ bs) cs (x ∷ xs) ys e h = let r = digits_part bs cs xs ys (omega arith) h.1 in ((h.0, r.0), r.1)

-- the less significant digits go on, and the others stay
pub go_on_after : (bs cs ps xs ys : List ℕ) → AreDigits bs ps → GoOn cs xs ys true
    → GoOn (bs ++ cs) (ps ++ xs) (ps ++ ys) true
go_on_after bs cs ps xs ys h g =
    let long = sym (length-digits bs ps h) in
    let a = joined-append bs cs ps xs long in
    let b = joined-append bs cs ps ys long in
    let n = g.1 in
    (digits_join bs cs ps ys h g.0, omega arith)

-- the less significant digits go back to zeros, and the others go on
pub go_on_carry : (more : Bool) (bs cs ps qs xs ys : List ℕ) → AreDigits bs ps → GoOn bs ps qs more
    → GoOn cs xs ys false → GoOn (bs ++ cs) (ps ++ xs) (qs ++ ys) more
go_on_carry true bs cs ps qs xs ys h g k =
    let a = joined-append bs cs ps xs (sym (length-digits bs ps h)) in
    let b = joined-append bs cs qs ys (sym (length-digits bs qs g.0)) in
    (digits_join bs cs qs ys g.0 k.0, count _ _ (joined bs ps) (joined bs qs) (product_of cs) (joined cs xs) (joined cs ys) b a g.1 k.1 k.2)
  where
    count : (l r j i p x y : ℕ) → l ≡ i * p + y → r ≡ j * p + x → i ≡ j + 1 → y ≡ 0 → x + 1 ≡ p → l ≡ r + 1
    count l r j i p x y e f g h k = omega (arith, ap (λ z. z * p) g)
go_on_carry false bs cs ps qs xs ys h g k =
    let a = joined-append bs cs ps xs (sym (length-digits bs ps h)) in
    let b = joined-append bs cs qs ys (sym (length-digits bs qs g.0)) in (
      digits_join bs cs qs ys g.0 k.0,
      none _ (joined bs qs) (product_of cs) (joined cs ys) b g.1 k.1,
      count _ _ (joined bs ps) (product_of bs) (product_of cs) (joined cs xs) (product-append bs cs) a g.2 k.2,
    )
  where
    none : (l i p y : ℕ) → l ≡ i * p + y → i ≡ 0 → y ≡ 0 → l ≡ 0
    none l i p y e f g = omega (arith, ap (λ z. z * p) f)

    count : (w r j q p x : ℕ) → w ≡ q * p → r ≡ j * p + x → j + 1 ≡ q → x + 1 ≡ p → r + 1 ≡ w
    count w r j q p x e f g h = omega (arith, ap (λ z. z * p) g)

pub go_on_digits : (more : Bool) (bases old new : List ℕ) → GoOn bases old new more → AreDigits bases new
go_on_digits true bases old new g = g.0
go_on_digits false bases old new g = g.0

same_below : (k b : ℕ) (xs : List ℕ) → AreDigits (replicate k b) xs → (i : ℕ) → i < length xs → get_or xs i 0 < b
same_below zero b [] h i l = absurd (omega arith)
same_below zero b (x ∷ xs) h i l = absurd h
same_below (suc k) b [] h i l = absurd h
same_below (suc k) b (x ∷ xs) h zero l = h.0
same_below (suc k) b (x ∷ xs) h (suc i) l = same_below k b xs h.1 i (omega arith)

pub small_digits : (n r : ℕ) (xs : List ℕ) → r ≤ 12 → AreDigits (colour_bases n r) xs → All (λ x. x < 255) xs
small_digits n r [] h d = absurd d
small_digits n r (x ∷ xs) h d = All-from_get_or (λ x. x < 255) (x ∷ xs) 0 each
  where
    each : (i : ℕ) → i < length (x ∷ xs) → get_or (x ∷ xs) i 0 < 255
    each zero l = let b = d.0 in omega arith
    each (suc i) l = let b = same_below (n - 1) r xs d.1 i (omega arith) in omega arith
