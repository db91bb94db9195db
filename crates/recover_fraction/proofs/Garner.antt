-- Garner's method: after each modulus, the number so far is the one below the product so far with the residues so far.
use Rattle.std.proofs.Common.{◌≡◌, ℕ, zero, suc, ◌+◌, ◌-◌, ◌*◌, ◌/◌, ◌%◌, ◌<◌, ◌≤◌, ◌↔◌, ◌^◌, ℤ, pos, ◌*ℤ◌, ◌-ℤ◌, nat_abs, refl, sym, ap, subst, ◌∙◌, arith, List, [], ◌∷◌, length, slice_index, drop, drop-cons, below_more, add-one, mod-eq_of_lt}
use Rattle.std.specs.Int.{◌∣◌}
use Rattle.std.proofs.Math.Nat.{mod-lt, div-add-mod, mul-mod_left, mul-le-mul_left, zero-mod}
use Rattle.arithmetic.specs.Numbers.{gcd, reduce}
use Rattle.arithmetic.proofs.Congruences.{Same, same_refl, same_of_eq, same_sym, same_trans, same_add, same_mul, same_mod, same_multiple}
use Rattle.arithmetic.proofs.Residues.{unit_one}
use Rattle.arithmetic.proofs.ReduceLaws.{same_from_divides, divides_from_same, reduce-pos, reduce_below}
use Rattle.arithmetic.specs.Agreement.{Agrees, AgreesModulo, ArePairwiseCoprime}
use Rattle.recover_fraction.specs.Agreement.{KeepsAgreement}
use Rattle.lists.specs.Digits.{product_of}
use Rattle.recover_fraction.specs.CommonResidues.{AreResiduesFor, IsCombination}
use Rattle.recover_fraction.proofs.CoprimeProducts.{coprime_product, same_product, same_of_multiple, reduce_of_multiple, product_positive}

-- the number so far and the product so far, after the moduli below an index
pub record IsSoFar (ms xs : List ℕ) (place number product : ℕ) : Type 0 where
  pub whole : product * product_of (drop place ms) ≡ product_of ms
  pub below : number < product
  pub has_residues : (i : ℕ) → i < place → number % slice_index ms i ≡ slice_index xs i
  pub divides : (i : ℕ) → i < place → Same (slice_index ms i) product 0
  pub coprime : (i : ℕ) → place ≤ i → i < length ms → gcd product (slice_index ms i) ≡ 1
  pub decides : (u v : ℕ) → ((i : ℕ) → i < place → Same (slice_index ms i) u v) → Same product u v

pub start : (ms xs : List ℕ) → IsSoFar ms xs 0 0 1
start ms xs = record {
  whole = omega arith;
  below = omega arith;
  has_residues = λ i l. absurd (omega arith);
  divides = λ i l. absurd (omega arith);
  coprime = λ i l k. unit_one (slice_index ms i);
  decides = λ u v h. record { is = omega arith };
}

-- what the next digit has to do
pub digit_is : (m m' number product residue missing inverse digit : ℕ) → m' ≡ m → residue < m → missing ≡ (residue + (m - number % m')) % m
    → ((product % m') * inverse) % m ≡ 1 → digit ≡ (missing * inverse) % m → (number + product * digit) % m ≡ residue
digit_is m m' number product residue missing inverse digit same below e f g =
    (same_trans (same_add (same_sym (same_mod m number)) product_digit) (same_trans (same_of_eq m _ _ (turned (number % m) residue m (mod-lt number some))) (same_multiple m residue 1))).is
    ∙ mod-eq_of_lt below
  where
    some : 0 < m
    some = omega arith

    one : 1 ≡ 1 % m
    one = sym f ∙ sym (same_mod m ((product % m') * inverse)).is ∙ ap (λ n. n % m) f

    turned : (n r m : ℕ) → n < m → n + (r + (m - n)) ≡ r + m * 1
    turned n r m h = omega arith

    once : (n : ℕ) → n * 1 ≡ n
    once n = omega arith

    regrouped : (p n i : ℕ) → p * (n * i) ≡ n * (p * i)
    regrouped p n i = omega arith

    unit : Same m (product * inverse) 1
    unit =
        same_trans (same_mul (same_sym (same_mod m product)) (same_refl m inverse))
        (record { is = ap (λ n. ((product % n) * inverse) % m) (sym same) ∙ f ∙ one })

    missing_is : Same m missing (residue + (m - number % m))
    missing_is = same_trans (same_of_eq m _ _ (e ∙ ap (λ n. (residue + (m - number % n)) % m) same)) (same_mod m _)

    product_digit : Same m (product * digit) (residue + (m - number % m))
    product_digit =
        same_trans (same_mul (same_refl m product) (same_trans (same_of_eq m _ _ g) (same_mod m (missing * inverse))))
        (same_trans (same_of_eq m _ _ (regrouped product missing inverse))
        (same_trans (same_mul (same_refl m missing) unit) (same_trans (same_of_eq m _ _ (once missing)) missing_is)))

positive_at : (ms xs : List ℕ) → AreResiduesFor ms xs → (i : ℕ) → i < length ms → 0 < slice_index ms i
positive_at ms xs h i l = let b = h.below i l in omega (arith, b)

-- the next product is at most the whole
pub bounded : (ms xs : List ℕ) (place number product : ℕ) → IsSoFar ms xs place number product → AreResiduesFor ms xs → place < length ms
    → product * slice_index ms place ≤ product_of ms
bounded ms xs place number product r h l =
    by_rest product (slice_index ms place) (product_of (drop (suc place) ms)) (product_of ms) (split ms xs place number product r l) (product_positive ms (positive_at ms xs h))
  where
    split : (ms xs : List ℕ) (place number product : ℕ) → IsSoFar ms xs place number product → place < length ms
        → product * slice_index ms place * product_of (drop (suc place) ms) ≡ product_of ms
    split ms xs place number product r l =
        let cut : product_of (drop place ms) ≡ slice_index ms place * product_of (drop (suc place) ms) = ap product_of (drop-cons ms place 0 l) in
        omega (arith, ap (λ n. product * n) cut, r.whole)

    by_rest : (p m n w : ℕ) → p * m * n ≡ w → 0 < w → p * m ≤ w
    by_rest p m zero w e h = absurd (omega (arith, e))
    by_rest p m (suc n) w e h = omega (arith, e)

-- a number and a digit below the next product
pub below_next : (number product digit m : ℕ) → number < product → digit < m → number + product * digit < product * m
below_next number product digit m h l = let more : product * suc digit ≤ product * m = mul-le-mul_left product l in omega (arith, more)

pub next : (ms xs : List ℕ) (place number product m digit : ℕ) → IsSoFar ms xs place number product → AreResiduesFor ms xs → ArePairwiseCoprime ms → place < length ms
    → m ≡ slice_index ms place → digit < m → (number + product * digit) % m ≡ slice_index xs place → IsSoFar ms xs (place + 1) (number + product * digit) (product * m)
next ms xs place number product m digit r h pairwise l e below value = record {
  whole =
      let cut : product_of (drop place ms) ≡ slice_index ms place * product_of (drop (suc place) ms) = ap product_of (drop-cons ms place 0 l) in
      rw (add-one, e) (omega (arith, ap (λ n. product * n) cut, r.whole));
  below = below_next number product digit m r.below below;
  has_residues =
      below_more (λ i. (number + product * digit) % slice_index ms i ≡ slice_index xs i) place
      (λ i k. (same_trans (same_add (same_refl (slice_index ms i) number) (same_mul (r.divides i k) (same_refl (slice_index ms i) digit))) (same_of_eq (slice_index ms i) _ _ (nothing number digit))).is ∙ r.has_residues i k)
      (ap (λ n. (number + product * digit) % n) (sym e) ∙ value);
  divides =
      below_more (λ i. Same (slice_index ms i) (product * m) 0) place
      (λ i k. same_trans (same_mul (r.divides i k) (same_refl (slice_index ms i) m)) (same_of_eq (slice_index ms i) _ _ (none m)))
      (subst (λ n. Same n (product * m) 0) e (record { is = mul-mod_left product m ∙ sym (zero-mod m) }));
  coprime = λ i k j. coprime_product product m (slice_index ms i) (r.coprime i (omega arith) j) (ap (λ n. gcd n (slice_index ms i)) e ∙ pairwise place i (omega arith) j);
  decides = λ u v s.
      same_product product m u v (omega arith) (ap (gcd product) e ∙ r.coprime place (omega arith) l)
      (r.decides u v (λ i k. s i (omega arith))) (subst (λ n. Same n u v) (sym e) (s place (omega arith)));
}
  where
    nothing : (n d : ℕ) → n + 0 * d ≡ n
    nothing n d = omega arith

    none : (m : ℕ) → 0 * m ≡ 0
    none m = omega arith

-- ---- after the last modulus
all_dropped : (ms : List ℕ) → product_of (drop (length ms) ms) ≡ 1
all_dropped [] = refl
all_dropped (m ∷ ms) = all_dropped ms

pub whole_product : (ms xs : List ℕ) (place number product : ℕ) → place ≡ length ms → IsSoFar ms xs place number product → product ≡ product_of ms
whole_product ms xs place number product e r =
    once product (product_of (drop place ms)) (product_of ms) (ap (λ n. product_of (drop n ms)) e ∙ all_dropped ms) r.whole
  where
    once : (p n w : ℕ) → n ≡ 1 → p * n ≡ w → p ≡ w
    once p n w e f = omega (arith, ap (λ y. p * y) e, f)

pub ended : (ms xs : List ℕ) (place number product : ℕ) → place ≡ length ms → IsSoFar ms xs place number product → IsSoFar ms xs (length ms) number (product_of ms)
ended ms xs place number product e r =
    subst (λ n. IsSoFar ms xs n number (product_of ms)) e (subst (λ n. IsSoFar ms xs place number n) (whole_product ms xs place number product e r) r)

pub combined : (ms xs : List ℕ) (number : ℕ) → IsSoFar ms xs (length ms) number (product_of ms) → IsCombination ms xs number
combined ms xs number r = record {
  below = r.below;
  has_residues = r.has_residues;
  only = λ y l h.
      let same : Same (product_of ms) y number = r.decides y number (λ i k. record { is = h i k ∙ sym (r.has_residues i k) }) in
      sym (mod-eq_of_lt l) ∙ same.is ∙ mod-eq_of_lt r.below;
}

module _ (ms xs : List ℕ) (number : ℕ) (r : IsSoFar ms xs (length ms) number (product_of ms)) (h : AreResiduesFor ms xs) (p : ℤ) (q : ℕ) where
  some : 0 < product_of ms
  some = product_positive ms (positive_at ms xs h)

  -- what the whole leaves modulo one modulus
  reduced_at : (i : ℕ) → i < length ms → reduce (product_of ms) p % slice_index ms i ≡ reduce (slice_index ms i) p
  reduced_at i l =
      let m = slice_index ms i in
      let multiple : product_of ms ≡ m * (product_of ms / m) = omega (arith, div-add-mod (product_of ms) m, (r.divides i l).is ∙ zero-mod m) in
      ap (λ n. reduce n p % m) multiple ∙ reduce_of_multiple m (product_of ms / m) p (positive_at ms xs h i l) (subst (λ n. 0 < n) multiple some)

  products : (i : ℕ) → i < length ms → Same (slice_index ms i) (q * number) (q * slice_index xs i)
  products i l =
      let m = slice_index ms i in
      same_mul (same_refl m q) (same_trans (same_sym (same_mod m number)) (same_of_eq m _ _ (r.has_residues i l)))

  pub divides_whole : ((i : ℕ) → i < length ms → slice_index ms i ∣ nat_abs (pos q *ℤ pos (slice_index xs i) -ℤ p)) → product_of ms ∣ nat_abs (pos q *ℤ pos number -ℤ p)
  divides_whole d =
      let same : Same (product_of ms) (q * number) (reduce (product_of ms) p) =
      r.decides _ _ (λ i l. record {
        is = (products i l).is ∙ sym (reduce-pos (slice_index ms i) (q * slice_index xs i))
            ∙ same_from_divides (slice_index ms i) (pos q *ℤ pos (slice_index xs i)) p (positive_at ms xs h i l) (d i l) ∙ sym (reduced_at i l);
      }) in
      divides_from_same (product_of ms) (pos q *ℤ pos number) p some (reduce-pos (product_of ms) (q * number) ∙ same.is ∙ mod-eq_of_lt (reduce_below (product_of ms) p some))

  pub divides_each : product_of ms ∣ nat_abs (pos q *ℤ pos number -ℤ p) → (i : ℕ) → i < length ms → slice_index ms i ∣ nat_abs (pos q *ℤ pos (slice_index xs i) -ℤ p)
  divides_each d i l =
      let m = slice_index ms i in
      let same : (q * number) % product_of ms ≡ reduce (product_of ms) p = sym (reduce-pos (product_of ms) (q * number)) ∙ same_from_divides (product_of ms) (pos q *ℤ pos number) p some d in
      let multiple : product_of ms ≡ m * (product_of ms / m) = omega (arith, div-add-mod (product_of ms) m, (r.divides i l).is ∙ zero-mod m) in
      let left : ((q * number) % product_of ms) % m ≡ (q * number) % m = ap (λ n. ((q * number) % n) % m) multiple ∙ (same_of_multiple m (product_of ms / m) (q * number)).is in
      divides_from_same m (pos q *ℤ pos (slice_index xs i)) p (positive_at ms xs h i l)
      (reduce-pos m (q * slice_index xs i) ∙ sym (products i l).is ∙ sym left ∙ ap (λ n. n % m) same ∙ reduced_at i l)

pub agreement : (ms xs : List ℕ) (number : ℕ) → IsSoFar ms xs (length ms) number (product_of ms) → AreResiduesFor ms xs → KeepsAgreement ms xs number
agreement ms xs number r h = record { same = by_pair }
  where
    by_pair : (a b : ℕ) (p : ℤ) (q : ℕ) → Agrees ms xs a b p q ↔ AgreesModulo (product_of ms) number a b p q
    by_pair a b p q = (
      λ g. record {
        top_within = g.top_within;
        positive = g.positive;
        bottom_within = g.bottom_within;
        lowest = g.lowest;
        divides = divides_whole ms xs number r h p q g.divides;
      },
      λ g. record {
        top_within = g.top_within;
        positive = g.positive;
        bottom_within = g.bottom_within;
        lowest = g.lowest;
        divides = divides_each ms xs number r h p q g.divides;
      },
    )

-- the next product fits
pub within_limit : (ms xs : List ℕ) (place number product m : ℕ) → IsSoFar ms xs place number product → AreResiduesFor ms xs → place < length ms
    → slice_index ms place ≡ m → product_of ms < 2 ^ 126 → product * m < 2 ^ 126
within_limit ms xs place number product m r h l e most =
    let next_most : product * m ≤ product_of ms = subst (λ n. product * n ≤ product_of ms) e (bounded ms xs place number product r h l) in
    omega (arith, next_most, most)
