-- Steps of arithmetic modulo m: what an operation on residues gives.
use Rattle.std.proofs.Common.{◌≡◌, ℕ, suc, ◌+◌, ◌-◌, ◌*◌, ◌%◌, ◌^◌, ◌<◌, ℤ, pos, ◌+ℤ◌, ◌-ℤ◌, ◌*ℤ◌, sym, ap, ◌∙◌, arith, add-one, mul_comm}
use Rattle.arithmetic.specs.Numbers.{power, product_below, integer_sum_below, factorial, reduce, Leaves}
use Rattle.arithmetic.proofs.ReduceLaws.{reduce-*ℤ, reduce-+ℤ, reduce_below}
use Rattle.arithmetic.proofs.Residues.{reduce-power}
use Rattle.arithmetic.proofs.Congruences.{same_refl, same_of_eq, same_trans, same_add, same_mod}
use Rattle.std.proofs.Math.IntN.{ -ℤ-+ℤ_cancel}
use Rattle.std.proofs.Math.Nat.{mod-lt, mod-eq_of_lt, add-mod_right}

pub Leaves-pos : (m n r : ℕ) → 0 < m → r ≡ n % m → Leaves m (pos n) r
unfolding reduce
Leaves-pos m n r h e = record { below = rw e (mod-lt n h); is = e }

below_by : (m r z : ℕ) → 0 < m → r ≡ z % m → r < m
below_by m r z h e = rw e (mod-lt z h)

some_by : {m : ℕ} {a : ℤ} {x : ℕ} → Leaves m a x → 0 < m
some_by l = let h = l.below in omega arith

pub Leaves-mul : {m : ℕ} {a b : ℤ} {x y r : ℕ} → Leaves m a x → Leaves m b y → r ≡ (x * y) % m → Leaves m (a *ℤ b) r
Leaves-mul {m} {a} {b} {x} {y} {r} p q e = record {
  below = below_by m r (x * y) (some_by p) e;
  is = e ∙ ap (λ n. (n * y) % m) p.is ∙ ap (λ n. (reduce m a * n) % m) q.is ∙ sym (reduce-*ℤ m a b (some_by p));
}

pub Leaves-add : {m : ℕ} {a b : ℤ} {x y r : ℕ} → Leaves m a x → Leaves m b y → r ≡ (x + y) % m → Leaves m (a +ℤ b) r
Leaves-add {m} {a} {b} {x} {y} {r} p q e = record {
  below = below_by m r (x + y) (some_by p) e;
  is = e ∙ ap (λ n. (n + y) % m) p.is ∙ ap (λ n. (reduce m a + n) % m) q.is ∙ sym (reduce-+ℤ m a b (some_by p));
}

pub Leaves-pow : {m : ℕ} {a : ℤ} {x r : ℕ} (n : ℕ) → Leaves m a x → r ≡ (x ^ n) % m → Leaves m (power a n) r
Leaves-pow {m} {a} {x} {r} n p e = record {
  below = below_by m r (x ^ n) (some_by p) e;
  is = e ∙ ap (λ z. (z ^ n) % m) p.is ∙ sym (reduce-power m a n (some_by p));
}

pub Leaves-sub : {m : ℕ} {a b : ℤ} {x y r : ℕ} → Leaves m a x → Leaves m b y → r ≡ (x + (m - y)) % m → Leaves m (a -ℤ b) r
Leaves-sub {m} {a} {b} {x} {y} {r} p q e =
    let h : 0 < m = some_by p in
    let whole : (reduce m (a -ℤ b) + y) % m ≡ x =
    ap (λ n. (reduce m (a -ℤ b) + n) % m) q.is ∙ sym (reduce-+ℤ m (a -ℤ b) b h) ∙ ap (reduce m) (-ℤ-+ℤ_cancel a b) ∙ sym p.is in
    let y_below = q.below in
    record {
      below = below_by m r (x + (m - y)) h e;
      is = e ∙ sub_step m x y (reduce m (a -ℤ b)) (m - y) (omega arith) whole ∙ mod-eq_of_lt (reduce_below m (a -ℤ b) h);
    }
  where
    turned : (d y k m : ℕ) → y + k ≡ m → d + y + k ≡ d + m
    turned d y k m e = omega arith

    sub_step : (m x y d k : ℕ) → y + k ≡ m → (d + y) % m ≡ x → (x + k) % m ≡ d % m
    sub_step m x y d k e f =
        (same_trans (same_add (same_trans (same_of_eq m x _ (sym f)) (same_mod m (d + y))) (same_refl m k))
        (same_trans (same_of_eq m _ (d + m) (turned d y k m e)) (record { is = add-mod_right d m }))).is

-- one more factor
pub Leaves-push : {m : ℕ} {x y r : ℕ} (n : ℕ) (f : ℕ → ℤ) → Leaves m (product_below n f) x → Leaves m (f n) y
    → r ≡ (x * y) % m → Leaves m (product_below (n + 1) f) r
Leaves-push {m} {x} {y} {r} n f p q e = rw add-one (Leaves-mul p q e)

pub Leaves-factorial : {m : ℕ} {x y r : ℕ} (n : ℕ) → Leaves m (pos (factorial n)) x → Leaves m (pos (n + 1)) y
    → r ≡ (x * y) % m → Leaves m (pos (factorial (n + 1))) r
Leaves-factorial {m} {x} {y} {r} n p q e =
    let l : Leaves m (pos (factorial n * (n + 1))) r = Leaves-mul p q e in
    let same : factorial n * (n + 1) ≡ factorial (n + 1) = rw add-one (mul_comm (factorial n) (suc n)) in
    rw (← same) l

-- one more summand
pub Leaves-push_sum : {m : ℕ} {x y r : ℕ} (n : ℕ) (f : ℕ → ℤ) → Leaves m (integer_sum_below n f) x → Leaves m (f n) y
    → r ≡ (x + y) % m → Leaves m (integer_sum_below (n + 1) f) r
Leaves-push_sum n f p q e = rw add-one (Leaves-add p q e)
