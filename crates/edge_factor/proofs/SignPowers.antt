-- The powers of -1.
use Rattle.std.proofs.Common.{◌≡◌, ◌≢◌, ℕ, zero, suc, ◌%◌, pos, negsuc, ◌*ℤ◌, refl, ap, sym, subst, arith}
use Rattle.arithmetic.specs.Numbers.{Leaves, power}

-- they alternate: 1 for an even exponent and -1 for an odd one
turns : (n : ℕ) → (n % 2 ≡ 0 → power (negsuc 0) n ≡ pos 1) × (n % 2 ≢ 0 → power (negsuc 0) n ≡ negsuc 0)
turns zero = (λ h. refl, λ h. absurd (h refl))
turns (suc n) =
    let before = turns n in (
      λ h. ap (λ z. z *ℤ negsuc 0) (before.1 (λ e. absurd (omega arith))),
      λ h. ap (λ z. z *ℤ negsuc 0) (before.0 (let l : n % 2 ≡ 0 = grind arith in l)),
    )

pub even_sign : {m x : ℕ} (a : ℕ) → a % 2 ≡ 0 → Leaves m (pos 1) x → Leaves m (power (negsuc 0) a) x
even_sign {m} {x} a h p = subst (λ z. Leaves m z x) (sym ((turns a).0 h)) p

pub odd_sign : {m x : ℕ} (a : ℕ) → a % 2 ≢ 0 → Leaves m (negsuc 0) x → Leaves m (power (negsuc 0) a) x
odd_sign {m} {x} a h p = subst (λ z. Leaves m z x) (sym ((turns a).1 h)) p
