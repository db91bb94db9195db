-- What a sum, a product and a power leave modulo m, and which numbers leave the same.
use Rattle.std.proofs.Common.{◌≡◌, ℕ, zero, suc, ◌+◌, ◌-◌, ◌*◌, ◌/◌, ◌%◌, ◌<◌, ℤ, pos, negsuc, ◌+ℤ◌, ◌-ℤ◌, ◌*ℤ◌, nat_abs, refl, sym, ap, subst, ◌∙◌, arith, ⊎_elim}
use Rattle.arithmetic.specs.Numbers.{power, reduce, gcd}
use Rattle.arithmetic.proofs.Euclid.{last_remainder, gcd_by_euclid}
use Rattle.std.proofs.lemmas.Nat.{mul-mod}
use Rattle.std.proofs.Math.Nat.{add-mod, add-mul-mod_self_left, mod-lt, div-add-mod, mod-eq_of_lt, mod-one, zero-lt-suc, zero-add, dvd-mul_right, mod-eq-sub-mod, suc-mod, mod-eq-zero_of_dvd, dvd_of_mod-eq-zero}
use Rattle.std.specs.Int.{◌∣◌}
use Rattle.std.proofs.Math.IntN.{ -ℤ-+ℤ_cancel}
use Rattle.std.proofs.lemmas.Bool.{cases_lt}
use borrow.Author.Differences.{up, down, sum_is_lem, product_is}

worked_gcd : gcd 123456789012345678 987654321987654321 ≡ 9
unfolding last_remainder
worked_gcd = gcd_by_euclid _ _ 9 refl

worked_power : power (negsuc 1) 5 ≡ negsuc 31
worked_power = refl

-- ---- residues
-- a natural number that leaves what z leaves modulo one more than p
unfoldable pub image : ℕ → ℤ → ℕ
image p z = up z + p * down z

complement : (p n q r : ℕ) → n ≡ suc p * q + r → r < suc p → (p * suc n) % suc p ≡ p - r
complement p n q r e h =
    let same : p * suc n ≡ (p - r) + suc p * (p * q + r) = by_cases p n q r (p - r) e (omega arith) in
    let l : p - r < suc p = omega arith in
    ap (λ x. x % suc p) same ∙ add-mul-mod_self_left (p - r) (suc p) (p * q + r) ∙ mod-eq_of_lt l
  where
    by_cases : (p n q r d : ℕ) → n ≡ suc p * q + r → d + r ≡ p → p * suc n ≡ d + suc p * (p * q + r)
    by_cases p n q r d e h = rw (e, ← h) (omega arith)

pub reduce-image : (p : ℕ) (z : ℤ) → reduce (suc p) z ≡ image p z % suc p
unfolding image reduce
reduce-image p (pos n) = let e : n + p * 0 ≡ n = omega arith in ap (λ x. x % suc p) (sym e)
reduce-image p (negsuc n) =
    let below : n % suc p < suc p = omega arith in
    let start : suc p - 1 - n % suc p ≡ p - n % suc p = omega arith in
    let whole : n ≡ suc p * (n / suc p) + n % suc p = sym (div-add-mod n (suc p)) in
    let end : 0 + p * suc n ≡ p * suc n = omega arith in
    start ∙ sym (ap (λ x. x % suc p) end ∙ complement p n (n / suc p) (n % suc p) whole below)

image-*ℤ : (p : ℕ) (a b : ℤ) → (image p a * image p b) % suc p ≡ image p (a *ℤ b) % suc p
unfolding image
image-*ℤ zero a b = mod-one _ ∙ sym (mod-one _)
image-*ℤ (suc q) a b =
    let ab = product_is a b in
    let same : (up a + suc q * down a) * (up b + suc q * down b) ≡ (up (a *ℤ b) + suc q * down (a *ℤ b)) + suc (suc q) * (q * (down a * down b)) =
    rw (ab.0, ab.1) (omega arith) in
    ap (λ x. x % suc (suc q)) same ∙ add-mul-mod_self_left _ (suc (suc q)) _

image-+ℤ : (p : ℕ) (a b : ℤ) → (image p a + image p b) % suc p ≡ image p (a +ℤ b) % suc p
unfolding image
image-+ℤ p a b =
    let s = sum_is_lem a b in
    by_rest p (up a) (down a) (up b) (down b) (up (a +ℤ b)) (down (a +ℤ b)) s
  where
    by_rest : (p ua da ub db u d : ℕ) → u + da + db ≡ d + ua + ub
        → ((ua + p * da) + (ub + p * db)) % suc p ≡ (u + p * d) % suc p
    by_rest p ua da ub db u d e =
        let same : ((ua + p * da) + (ub + p * db)) + suc p * d ≡ (u + p * d) + suc p * (da + db) = omega arith in
        sym (add-mul-mod_self_left _ (suc p) d) ∙ ap (λ x. x % suc p) same ∙ add-mul-mod_self_left _ (suc p) (da + db)

pub reduce-*ℤ : (m : ℕ) (a b : ℤ) → 0 < m → reduce m (a *ℤ b) ≡ (reduce m a * reduce m b) % m
reduce-*ℤ zero a b h = absurd (omega arith)
reduce-*ℤ (suc p) a b h =
    rw (reduce-image p a, reduce-image p b, reduce-image p (a *ℤ b)) (sym (image-*ℤ p a b) ∙ mul-mod (image p a) (image p b) (suc p))

pub reduce-+ℤ : (m : ℕ) (a b : ℤ) → 0 < m → reduce m (a +ℤ b) ≡ (reduce m a + reduce m b) % m
reduce-+ℤ zero a b h = absurd (omega arith)
reduce-+ℤ (suc p) a b h =
    rw (reduce-image p a, reduce-image p b, reduce-image p (a +ℤ b)) (sym (image-+ℤ p a b) ∙ add-mod (image p a) (image p b) (suc p))

pub reduce-pos : (m n : ℕ) → reduce m (pos n) ≡ n % m
unfolding reduce
reduce-pos m n = refl

pub reduce-negsuc : (m n : ℕ) → reduce m (negsuc n) ≡ m - 1 - n % m
unfolding reduce
reduce-negsuc m n = refl

pub reduce_below : (m : ℕ) (z : ℤ) → 0 < m → reduce m z < m
reduce_below zero z h = absurd (omega arith)
reduce_below (suc p) z h = rw (reduce-image p z) (mod-lt (image p z) (zero-lt-suc p))

-- m divides z exactly if z leaves 0
pub divides_from_reduce : (m : ℕ) (z : ℤ) → 0 < m → reduce m z ≡ 0 → m ∣ nat_abs z
unfolding reduce
divides_from_reduce m (pos n) h e = dvd_of_mod-eq-zero m e
divides_from_reduce m (negsuc n) h e =
    let below : n % m < m = omega arith in
    let whole : suc n ≡ m * (n / m + 1) = omega (arith, div-add-mod n m) in
    subst (λ x. m ∣ x) (sym whole) (dvd-mul_right m (n / m + 1))

last : (m n : ℕ) → 0 < m → suc n % m ≡ 0 → m - 1 - n % m ≡ 0
last m n h e =
    ⊎_elim (λ l. let f : suc (n % m) % m ≡ suc (n % m) = mod-eq_of_lt (omega arith) in
    absurd (let g : suc (n % m) ≡ 0 = sym f ∙ sym (suc-mod n m) ∙ e in omega arith))
    (λ l. omega arith) (cases_lt (n % m + 1) m)

pub reduce_from_divides : (m : ℕ) (z : ℤ) → 0 < m → m ∣ nat_abs z → reduce m z ≡ 0
unfolding reduce
reduce_from_divides m (pos n) h e = mod-eq-zero_of_dvd m e
reduce_from_divides m (negsuc n) h e = last m n h (mod-eq-zero_of_dvd m e)

-- m divides a difference exactly if both sides leave the same
pub same_from_divides : (m : ℕ) (a b : ℤ) → 0 < m → m ∣ nat_abs (a -ℤ b) → reduce m a ≡ reduce m b
same_from_divides m a b h d =
    let none = reduce_from_divides m (a -ℤ b) h d in
    let parts = reduce-+ℤ m (a -ℤ b) b h in
    let below = reduce_below m b h in
    let rest : (0 + reduce m b) % m ≡ reduce m b = rw zero-add (mod-eq_of_lt below) in
    ap (reduce m) (sym (-ℤ-+ℤ_cancel a b)) ∙ parts ∙ ap (λ x. (x + reduce m b) % m) none ∙ rest

pub divides_from_same : (m : ℕ) (a b : ℤ) → 0 < m → reduce m a ≡ reduce m b → m ∣ nat_abs (a -ℤ b)
divides_from_same m a b h d =
    let parts = reduce-+ℤ m (a -ℤ b) b h in
    let whole : (reduce m (a -ℤ b) + reduce m b) % m ≡ reduce m b = sym parts ∙ ap (reduce m) (-ℤ-+ℤ_cancel a b) ∙ d in
    divides_from_reduce m (a -ℤ b) h (nothing_added (reduce m (a -ℤ b)) (reduce m b) m (reduce_below m (a -ℤ b) h) (reduce_below m b h) whole)
  where
    nothing_added : (x r m : ℕ) → x < m → r < m → (x + r) % m ≡ r → x ≡ 0
    nothing_added x r m hx hr e =
        ⊎_elim (λ l. let f : (x + r) % m ≡ x + r = mod-eq_of_lt l in omega arith)
        (λ l. let f : (x + r) % m ≡ (x + r - m) % m = mod-eq-sub-mod l in
        let g : x + r - m < m = omega arith in
        let k : (x + r - m) % m ≡ x + r - m = mod-eq_of_lt g in omega arith) (cases_lt (x + r) m)
