-- Numbers that are congruent differ by a multiple of the modulus.
use Rattle.std.proofs.Common.{◌≡◌, ℕ, suc, ◌+◌, ◌-◌, ◌*◌, ◌/◌, ◌%◌, ◌⊎◌, inl, inr, sym, ◌∙◌, arith, ⊎_elim}
use Rattle.std.proofs.Math.Nat.{div-add-mod, zero-mod}
use Rattle.std.proofs.lemmas.Bool.{cases_lt}
use Rattle.arithmetic.proofs.Congruences.{Same}

-- a number that leaves 0 is a multiple
pub multiple_of : (m u : ℕ) → Same m u 0 → (k : ℕ) × (u ≡ k * m)
multiple_of m u h =
    let none : u % m ≡ 0 = h.is ∙ zero-mod m in (u / m, omega (arith, div-add-mod u m, none))

-- the one is the other and a multiple, or the other is the one and a positive multiple
pub apart_by : (m u v : ℕ) → Same m u v → ((k : ℕ) × (u ≡ v + k * m)) ⊎ ((h : ℕ) × (v ≡ u + suc h * m))
apart_by m u v h =
    ⊎_elim
    (λ l. inr (v / m - u / m - 1, by_quotients m u v (u / m) (v / m) (v / m - u / m - 1) (u % m) (v % m) (div-add-mod u m) (div-add-mod v m) h.is (omega arith)))
    (λ l. inl (u / m - v / m, by_quotients' m v u (v / m) (u / m) (u / m - v / m) (v % m) (u % m) (div-add-mod v m) (div-add-mod u m) (sym h.is) (omega arith)))
    (cases_lt (u / m) (v / m))
  where
    by_quotients : (m u v p q d r s : ℕ) → m * p + r ≡ u → m * q + s ≡ v → r ≡ s → q ≡ p + suc d → v ≡ u + suc d * m
    by_quotients m u v p q d r s e f g h = rw (← e, ← f, g, h) (omega arith)

    by_quotients' : (m u v p q d r s : ℕ) → m * p + r ≡ u → m * q + s ≡ v → r ≡ s → q ≡ p + d → v ≡ u + d * m
    by_quotients' m u v p q d r s e f g h = rw (← e, ← f, g, h) (omega arith)
