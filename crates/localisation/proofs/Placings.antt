-- The multinomial in the fraction of a vertex with psi classes is a whole number: the division in its definition leaves nothing.
use Rattle.std.proofs.Common.{◌≡◌, ℕ, zero, suc, ◌+◌, ◌-◌, ◌*◌, ◌/◌, ◌<◌, ◌≤◌, List, [], ◌∷◌, map, sum, refl, ap, ◌∙◌, subst, arith}
use Rattle.std.proofs.lemmas.List.Sums.{sum_by-cons}
use Rattle.std.proofs.Math.Nat.{mul-div_cancel}
use Rattle.arithmetic.specs.Numbers.{factorial}
use Rattle.lists.specs.Binomials.{choose}
use Rattle.lists.specs.Digits.{product_of}
use Rattle.localisation.specs.VertexFraction.{multinomial}

none_of_more : (n k : ℕ) → n < k → choose n k ≡ 0
none_of_more zero zero h = absurd (omega arith)
none_of_more zero (suc k) h = refl
none_of_more (suc n) zero h = absurd (omega arith)
none_of_more (suc n) (suc k) h = step (choose n k) (choose n (suc k)) (none_of_more n k (omega arith)) (none_of_more n (suc k) (omega arith))
  where
    step : (a b : ℕ) → a ≡ 0 → b ≡ 0 → a + b ≡ 0
    step a b p q = omega (arith, p, q)

-- n over k, times the factorials of k and of what is left, is the factorial of n
chosen : (n k l : ℕ) → k + l ≡ n → choose n k * (factorial k * factorial l) ≡ factorial n
chosen n zero l e = let same : l ≡ n = omega arith in start (factorial l) ∙ ap factorial same
  where
    start : (f : ℕ) → 1 * (1 * f) ≡ f
    start f = omega arith
chosen zero (suc k) l e = absurd (omega arith)
chosen (suc n) (suc k) zero e =
    let same : k ≡ n = omega arith in
    let first = chosen n k 0 (omega arith) in
    let none = none_of_more n (suc k) (omega arith) in
    last k n (choose n k) (choose n (suc k)) (factorial k) (factorial n) same first none
  where
    last : (k n a b f g : ℕ) → k ≡ n → a * (f * 1) ≡ g → b ≡ 0 → (a + b) * ((suc k * f) * 1) ≡ suc n * g
    last k n a b f g same first none =
        let scaled = ap (λ x. suc k * x) first in
        let as_many = ap (λ x. suc x * g) same in
        rw none (let all : (a + 0) * ((suc k * f) * 1) ≡ suc n * g = omega (arith, scaled, as_many) in all)
chosen (suc n) (suc k) (suc l) e =
    let first = chosen n k (suc l) (omega arith) in
    let second = chosen n (suc k) l (omega arith) in
    step k l n (choose n k) (choose n (suc k)) (factorial k) (factorial l) (factorial n) (omega arith) first second
  where
    step : (k l n a b f h g : ℕ) → k + suc l ≡ n → a * (f * (suc l * h)) ≡ g → b * ((suc k * f) * h) ≡ g → (a + b) * ((suc k * f) * (suc l * h)) ≡ suc n * g
    step k l n a b f h g e first second =
        let one = ap (λ x. suc k * x) first in
        let two = ap (λ x. suc l * x) second in
        let three : suc n * g ≡ suc k * g + suc l * g = (let m = ap (λ x. suc x * g) e in omega (arith, m)) in
        omega (arith, one, two, three)

-- the ways to place the exponents ks one after the other, out of n
abbrev ways : ℕ → List ℕ → ℕ
ways n [] = 1
ways n (k ∷ ks) = choose n k * ways (n - k) ks

ways_times : (n : ℕ) (ks : List ℕ) → sum ks ≤ n → ways n ks * (product_of (map factorial ks) * factorial (n - sum ks)) ≡ factorial n
ways_times n [] h = start (factorial (n - 0)) (factorial n) (ap factorial (let e : n - 0 ≡ n = omega arith in e))
  where
    start : (a b : ℕ) → a ≡ b → 1 * (1 * a) ≡ b
    start a b e = omega (arith, e)
ways_times n (k ∷ ks) h =
    let whole = sum_by-cons (λ x. x) k ks in
    let rest = ways_times (n - k) ks (omega (arith, h, whole)) in
    let left : n - k - sum ks ≡ n - sum (k ∷ ks) = omega (arith, whole) in
    step (choose n k) (ways (n - k) ks) (factorial k) (product_of (map factorial ks)) (factorial (n - k - sum ks)) (factorial (n - sum (k ∷ ks))) (factorial (n - k)) (factorial n)
    (ap factorial left) rest (chosen n k (n - k) (omega (arith, h, whole)))
  where
    step : (c w f p l m r g : ℕ) → l ≡ m → w * (p * l) ≡ r → c * (f * r) ≡ g → (c * w) * ((f * p) * m) ≡ g
    step c w f p l m r g e rest first = rw (← e) (let scaled = ap (λ x. c * (f * x)) rest in omega (arith, scaled, first))

some_ways : (n : ℕ) → 1 ≤ factorial n
some_ways zero = omega arith
some_ways (suc n) = let more = some_ways n in grind (arith, more)

some_product : (ks : List ℕ) → 1 ≤ product_of (map factorial ks)
some_product [] = omega arith
some_product (k ∷ ks) = step (factorial k) (product_of (map factorial ks)) (some_ways k) (some_product ks)
  where
    step : (a b : ℕ) → 1 ≤ a → 1 ≤ b → 1 ≤ a * b
    step (suc a) (suc b) h k = omega arith
    step zero b h k = absurd (omega arith)
    step (suc a) zero h k = absurd (omega arith)

-- K, times the factorials of the exponents and of what is left, is n!
pub multinomial_is_whole : (n : ℕ) (ks : List ℕ) → sum ks ≤ n → multinomial n ks * (product_of (map factorial ks) * factorial (n - sum ks)) ≡ factorial n
multinomial_is_whole n ks h =
    let times = ways_times n ks h in
    by_division (ways n ks) (product_of (map factorial ks)) (factorial (n - sum ks)) (factorial n) (some_product ks) (some_ways (n - sum ks)) times
  where
    by_division : (w p f g : ℕ) → 1 ≤ p → 1 ≤ f → w * (p * f) ≡ g → g / (p * f) * (p * f) ≡ g
    by_division w p f g some_p some_f e = exact w (p * f) g (positive p f some_p some_f) e
      where
        positive : (a b : ℕ) → 1 ≤ a → 1 ≤ b → 0 < a * b
        positive (suc a) (suc b) h k = omega arith
        positive zero b h k = absurd (omega arith)
        positive (suc a) zero h k = absurd (omega arith)

        exact : (w d g : ℕ) → 0 < d → w * d ≡ g → g / d * d ≡ g
        exact w d g some e = subst (λ x. x / d * d ≡ x) e (ap (λ x. x * d) (mul-div_cancel w some))
