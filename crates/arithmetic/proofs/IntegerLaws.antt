-- Laws of sums and products of integers that the kit lacks.
use Rattle.std.proofs.Common.{◌≡◌, ◌*◌, ℤ, ◌+ℤ◌, ◌*ℤ◌, ap, arith}
use borrow.Author.Differences.{up, down, same_in, sum_is_lem, product_is}

-- ---- the ring
pub *ℤ_assoc : (a b c : ℤ) → a *ℤ b *ℤ c ≡ a *ℤ (b *ℤ c)
*ℤ_assoc a b c =
    let l = product_is (a *ℤ b) c in
    let r = product_is a (b *ℤ c) in
    let ab = product_is a b in
    let bc = product_is b c in
    same_in (a *ℤ b *ℤ c) (a *ℤ (b *ℤ c)) (rw (l.0, l.1, r.0, r.1, ab.0, ab.1, bc.0, bc.1) (omega arith))

pub *ℤ-+ℤ : (a b c : ℤ) → a *ℤ (b +ℤ c) ≡ a *ℤ b +ℤ a *ℤ c
*ℤ-+ℤ a b c =
    let l = product_is a (b +ℤ c) in
    let ab = product_is a b in
    let ac = product_is a c in
    let s = sum_is_lem b c in
    let s₁ = ap (λ x. up a * x) s in
    let s₂ = ap (λ x. down a * x) s in
    let t = sum_is_lem (a *ℤ b) (a *ℤ c) in
    same_in (a *ℤ (b +ℤ c)) (a *ℤ b +ℤ a *ℤ c) (omega (arith, l, ab, ac, s₁, s₂, t))
