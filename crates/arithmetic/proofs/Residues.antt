-- Laws of the residues of fractions.
use Rattle.std.proofs.Common.{◌≡◌, ℕ, zero, suc, ◌+◌, ◌-◌, ◌*◌, ◌/◌, ◌%◌, ◌^◌, ◌<◌, ℤ, pos, negsuc, ◌+ℤ◌, ◌*ℤ◌, nat_abs, List, [], ◌∷◌, sum, sym, ap, ap₂, subst, ◌∙◌, arith, mul_comm}
use Rattle.std.specs.Int.{◌∣◌}
use Rattle.std.proofs.Math.Nat.{mod-lt, mod-eq_of_lt, mod-mod, div-add-mod, dvd-mul_right_of_dvd, dvd-add_iff_left, dvd-add_iff_right, dvd_refl, one-dvd, mul-one, add-mod-mod, pow-suc, pow-zero}
use Rattle.std.proofs.lemmas.Nat.{mul-mod_first}
use Rattle.std.proofs.lemmas.List.Sums.{sum_by-cons}
use Rattle.arithmetic.specs.Numbers.{power, reduce, gcd, Leaves}
use Rattle.arithmetic.specs.Fractions.{Fraction, fraction, times, plus, sum_of_fractions, IsResidue}
use Rattle.arithmetic.proofs.ReduceLaws.{reduce-*ℤ, reduce-+ℤ, reduce-pos, divides_from_same, same_from_divides}
use Rattle.arithmetic.proofs.Divisors.{gcd_is, gcd_from_IsGcd, gcd_comm, gcd-mod, IsUnit, IsUnit-from_gcd, gcd-from_IsUnit}
use Rattle.arithmetic.proofs.Congruences.{same_refl, same_of_eq, same_sym, same_trans, same_add, same_mul, same_mod}

pub reduce-power : (m : ℕ) (z : ℤ) (n : ℕ) → 0 < m → reduce m (power z n) ≡ (reduce m z ^ n) % m
unfolding reduce
reduce-power m z zero h = ap (λ x. x % m) (sym (pow-zero (reduce m z)))
reduce-power m z (suc n) h =
    reduce-*ℤ m (power z n) z h ∙ ap (λ x. (x * reduce m z) % m) (reduce-power m z n h)
    ∙ mul-mod_first (reduce m z ^ n) (reduce m z) m ∙ ap (λ x. x % m) (sym (pow-suc (reduce m z) n))

-- a divisor of a number and of a sum divides the other summand
same_gcd : (m r n k : ℕ) → r + n ≡ m * k → gcd r m ≡ gcd n m
same_gcd m r n k e = gcd_from_IsGcd r m (gcd n m)
    (let g = gcd_is n m in
    let multiple : (d : ℕ) → d ∣ m → d ∣ r + n = λ d h. subst (λ x. d ∣ x) (sym e) (dvd-mul_right_of_dvd d h k) in (
      (dvd-add_iff_left (gcd n m) {m = r} g.0).1 (multiple (gcd n m) g.1),
      g.1,
      λ d p q. g.2 d ((dvd-add_iff_right d {n = n} p).1 (multiple d q)) q,
    ))

pub gcd-reduce : (m : ℕ) (z : ℤ) → 0 < m → gcd (reduce m z) m ≡ gcd (nat_abs z) m
unfolding reduce
gcd-reduce m (pos n) h = gcd_comm (n % m) m ∙ gcd-mod n m
gcd-reduce m (negsuc n) h = same_gcd m (m - 1 - n % m) (suc n) (n / m + 1)
    (let below : n % m < m = omega arith in omega (arith, div-add-mod n m))

-- ---- units
pub IsUnit-mul : (m x y : ℕ) → IsUnit m x → IsUnit m y → IsUnit m ((x * y) % m)
IsUnit-mul m x y p q = record {
  inverse = p.inverse * q.inverse;
  is = (same_trans (same_mul (same_mod m (x * y)) (same_refl m (p.inverse * q.inverse)))
      (same_trans (same_of_eq m _ _ (turned x y p.inverse q.inverse)) (same_mul (record { is = p.is }) (record { is = q.is })))).is;
}
  where
    turned : (x y s t : ℕ) → x * y * (s * t) ≡ x * s * (y * t)
    turned x y s t = omega arith

pub IsUnit-first : (m x y : ℕ) → IsUnit m ((x * y) % m) → IsUnit m x
IsUnit-first m x y p = record {
  inverse = y * p.inverse;
  is = (same_trans (same_of_eq m _ _ (turned x y p.inverse)) (same_trans (same_mul (same_sym (same_mod m (x * y))) (same_refl m p.inverse)) (record { is = p.is }))).is;
}
  where
    turned : (x y s : ℕ) → x * (y * s) ≡ x * y * s
    turned x y s = omega arith

pub unit : ℕ → ℤ → Type 0
unit m z = gcd (nat_abs z) m ≡ 1

unit_out : (m : ℕ) (z : ℤ) → 1 < m → gcd (nat_abs z) m ≡ 1 → IsUnit m (reduce m z)
unit_out m z h e = let some : 0 < m = omega arith in IsUnit-from_gcd m (reduce m z) some (gcd-reduce m z some ∙ e)

unit_in : (m : ℕ) (z : ℤ) → 1 < m → IsUnit m (reduce m z) → gcd (nat_abs z) m ≡ 1
unit_in m z h u = let some : 0 < m = omega arith in sym (gcd-reduce m z some) ∙ gcd-from_IsUnit m (reduce m z) h u

pub unit-*ℤ : (m : ℕ) (a b : ℤ) → 1 < m → gcd (nat_abs a) m ≡ 1 → gcd (nat_abs b) m ≡ 1 → gcd (nat_abs (a *ℤ b)) m ≡ 1
unit-*ℤ m a b h p q =
    unit_in m (a *ℤ b) h (subst (IsUnit m) (sym (reduce-*ℤ m a b (omega arith))) (IsUnit-mul m (reduce m a) (reduce m b) (unit_out m a h p) (unit_out m b h q)))

pub unit_first : (m : ℕ) (a b : ℤ) → 1 < m → gcd (nat_abs (a *ℤ b)) m ≡ 1 → gcd (nat_abs a) m ≡ 1
unit_first m a b h p =
    unit_in m a h (IsUnit-first m (reduce m a) (reduce m b) (subst (IsUnit m) (reduce-*ℤ m a b (omega arith)) (unit_out m (a *ℤ b) h p)))

pub unit_second : (m : ℕ) (a b : ℤ) → 1 < m → gcd (nat_abs (a *ℤ b)) m ≡ 1 → gcd (nat_abs b) m ≡ 1
unit_second m a b h p =
    unit_in m b h (IsUnit-first m (reduce m b) (reduce m a)
    (subst (IsUnit m) (reduce-*ℤ m a b (omega arith) ∙ ap (λ x. x % m) (mul_comm (reduce m a) (reduce m b))) (unit_out m (a *ℤ b) h p)))

-- ---- residues
pub IsResidue-from : (m : ℕ) (f : Fraction) (x top bottom : ℕ) → 0 < m → reduce m f.top ≡ top → reduce m f.bottom ≡ bottom
    → x < m → gcd bottom m ≡ 1 → (x * bottom) % m ≡ top → IsResidue m f x
unfolding reduce
IsResidue-from m f x top bottom h et eb below one e = record {
  below = below;
  unit = sym (gcd-reduce m f.bottom h) ∙ ap (λ n. gcd n m) eb ∙ one;
  divides = divides_from_same m (pos x *ℤ f.bottom) f.top h
      (reduce-*ℤ m (pos x) f.bottom h ∙ mul-mod_first x (reduce m f.bottom) m ∙ ap (λ n. (x * n) % m) eb ∙ e ∙ sym et);
}

-- a whole number, over 1
pub unit_one : (m : ℕ) → gcd 1 m ≡ 1
unit_one m = gcd_from_IsGcd 1 m 1 (dvd_refl 1, one-dvd m, λ d p q. p)

pub IsResidue-whole : {m x : ℕ} (z : ℤ) → Leaves m z x → IsResidue m (fraction z (pos 1)) x
IsResidue-whole {m} {x} z l =
    let below = l.below in
    record {
      below = below;
      unit = unit_one m;
      divides = divides_from_same m (pos x *ℤ pos 1) z (omega arith)
          (ap (reduce m) (ap pos (mul-one x)) ∙ reduce-pos m x ∙ mod-eq_of_lt below ∙ l.is);
    }

-- the sum over nothing has the residue 0
pub residue_of_zero : (m : ℕ) → 1 < m → IsResidue m (fraction (pos 0) (pos 1)) 0
residue_of_zero m h =
    IsResidue-from m (fraction (pos 0) (pos 1)) 0 0 1 (omega arith) (reduce-pos m 0 ∙ mod-eq_of_lt (omega arith)) (reduce-pos m 1 ∙ mod-eq_of_lt h)
    (omega arith) (unit_one m) (mod-eq_of_lt (omega arith))

pub residue_equation : (m : ℕ) (f : Fraction) (x : ℕ) → 0 < m → IsResidue m f x → (x * reduce m f.bottom) % m ≡ reduce m f.top
unfolding reduce
residue_equation m f x h r =
    sym (reduce-*ℤ m (pos x) f.bottom h ∙ mul-mod_first x (reduce m f.bottom) m) ∙ same_from_divides m (pos x *ℤ f.bottom) f.top h r.divides

pub IsResidue-times : (m : ℕ) (f g : Fraction) (x y : ℕ) → 1 < m → IsResidue m f x → IsResidue m g y → IsResidue m (times f g) ((x * y) % m)
unfolding reduce
IsResidue-times m f g x y h p q =
    let some : 0 < m = omega arith in
    record {
      below = mod-lt (x * y) some;
      unit = unit-*ℤ m f.bottom g.bottom h p.unit q.unit;
      divides = divides_from_same m (pos ((x * y) % m) *ℤ (f.bottom *ℤ g.bottom)) (f.top *ℤ g.top) some
          (reduce-*ℤ m (pos ((x * y) % m)) (f.bottom *ℤ g.bottom) some
          ∙ ap (λ n. ((x * y) % m % m * n) % m) (reduce-*ℤ m f.bottom g.bottom some)
          ∙ crossed m x y (reduce m f.bottom) (reduce m g.bottom) (reduce m f.top) (reduce m g.top) (residue_equation m f x some p) (residue_equation m g y some q)
          ∙ sym (reduce-*ℤ m f.top g.top some));
    }
  where
    crossed : (m x y b d a c : ℕ) → (x * b) % m ≡ a → (y * d) % m ≡ c → ((x * y) % m % m * ((b * d) % m)) % m ≡ (a * c) % m
    crossed m x y b d a c e f =
        (same_trans (same_mul (same_trans (same_mod m ((x * y) % m)) (same_mod m (x * y))) (same_mod m (b * d)))
        (same_trans (same_of_eq m _ _ (turned x y b d)) (same_mul (same_trans (same_sym (same_mod m (x * b))) (same_of_eq m _ _ e)) (same_trans (same_sym (same_mod m (y * d))) (same_of_eq m _ _ f))))).is
      where
        turned : (x y b d : ℕ) → x * y * (b * d) ≡ x * b * (y * d)
        turned x y b d = omega arith

pub IsResidue-plus : (m : ℕ) (f g : Fraction) (x y : ℕ) → 1 < m → IsResidue m f x → IsResidue m g y → IsResidue m (plus f g) ((x + y) % m)
IsResidue-plus m f g x y h p q =
    let some : 0 < m = omega arith in
    let top = reduce-+ℤ m (f.top *ℤ g.bottom) (g.top *ℤ f.bottom) some in
    record {
      below = mod-lt (x + y) some;
      unit = unit-*ℤ m f.bottom g.bottom h p.unit q.unit;
      divides = divides_from_same m (pos ((x + y) % m) *ℤ (f.bottom *ℤ g.bottom)) (f.top *ℤ g.bottom +ℤ g.top *ℤ f.bottom) some
          (reduce-*ℤ m (pos ((x + y) % m)) (f.bottom *ℤ g.bottom) some
          ∙ ap (λ n. (n * reduce m (f.bottom *ℤ g.bottom)) % m) (reduce-pos m ((x + y) % m))
          ∙ ap (λ n. ((x + y) % m % m * n) % m) (reduce-*ℤ m f.bottom g.bottom some)
          ∙ crossed m x y (reduce m f.bottom) (reduce m g.bottom) (reduce m f.top) (reduce m g.top) (residue_equation m f x some p) (residue_equation m g y some q)
          ∙ sym (top ∙ ap₂ (λ u v. (u + v) % m) (reduce-*ℤ m f.top g.bottom some) (reduce-*ℤ m g.top f.bottom some)));
    }
  where
    crossed : (m x y b d a c : ℕ) → (x * b) % m ≡ a → (y * d) % m ≡ c → ((x + y) % m % m * ((b * d) % m)) % m ≡ ((a * d) % m + (c * b) % m) % m
    crossed m x y b d a c e f =
        (same_trans (same_mul (same_trans (same_mod m ((x + y) % m)) (same_mod m (x + y))) (same_mod m (b * d)))
        (same_trans (same_of_eq m _ _ (turned x y b d))
        (same_add
        (same_trans (same_mul (same_trans (same_sym (same_mod m (x * b))) (same_of_eq m _ _ e)) (same_refl m d)) (same_sym (same_mod m (a * d))))
        (same_trans (same_mul (same_trans (same_sym (same_mod m (y * d))) (same_of_eq m _ _ f)) (same_refl m b)) (same_sym (same_mod m (c * b))))))).is
      where
        turned : (x y b d : ℕ) → (x + y) * (b * d) ≡ x * b * d + y * d * b
        turned x y b d = omega arith

-- numbers that are the residues of fractions, one by one
pub data AreResidues (m : ℕ) : List Fraction → List ℕ → Type 0 where
  none : AreResidues m [] []
  one : {f : Fraction} {x : ℕ} {fs : List Fraction} {xs : List ℕ} → IsResidue m f x → AreResidues m fs xs → AreResidues m (f ∷ fs) (x ∷ xs)

pub IsResidue-sum : (m : ℕ) (fs : List Fraction) (xs : List ℕ) → 1 < m → AreResidues m fs xs → IsResidue m (sum_of_fractions fs) (sum xs % m)
IsResidue-sum m [] [] h none = record {
  below = mod-lt 0 (omega arith);
  unit = unit_one m;
  divides = divides_from_same m (pos (0 % m) *ℤ pos 1) (pos 0) (omega arith) (ap (reduce m) (ap pos (mul-one (0 % m))) ∙ reduce-pos m (0 % m) ∙ mod-mod 0 m ∙ sym (reduce-pos m 0));
}
IsResidue-sum m [] (x ∷ xs) h rs = elim rs [ ]
IsResidue-sum m (f ∷ fs) [] h rs = elim rs [ ]
IsResidue-sum m (f ∷ fs) (x ∷ xs) h (one r rs) =
    let whole : (x + sum xs % m) % m ≡ sum (x ∷ xs) % m = add-mod-mod x (sum xs) m ∙ ap (λ n. n % m) (sym (sum_by-cons (λ z. z) x xs)) in
    subst (λ n. IsResidue m (plus f (sum_of_fractions fs)) n) whole (IsResidue-plus m f (sum_of_fractions fs) x (sum xs % m) h r (IsResidue-sum m fs xs h rs))
