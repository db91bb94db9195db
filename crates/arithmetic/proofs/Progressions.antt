-- Products over the terms of an arithmetic progression.
use Rattle.std.proofs.Common.{◌≡◌, ℕ, zero, suc, ◌+◌, ◌%◌, ◌<◌, ℤ, pos, ◌+ℤ◌, ◌-ℤ◌, ◌*ℤ◌, refl, sym, ap, ap₂, ◌∙◌, arith}
use Rattle.std.proofs.lemmas.Int.{ints}
use Rattle.std.proofs.Math.IntN.{ -ℤ-+ℤ_cancel, *ℤ_comm, *ℤ-one, *ℤ-zero}
use Rattle.arithmetic.specs.Numbers.{product_below, progression, Leaves}
use Rattle.arithmetic.proofs.IntegerLaws.{*ℤ-+ℤ}
use Rattle.arithmetic.proofs.Modular.{Leaves-add}

-- products and sums of equal terms
pub product_below-same : (n : ℕ) (f g : ℕ → ℤ) → ((t : ℕ) → t < n → f t ≡ g t) → product_below n f ≡ product_below n g
product_below-same zero f g h = refl
product_below-same (suc n) f g h =
    ap₂ (λ x y. x *ℤ y) (product_below-same n f g (λ t l. h t (omega arith))) (h n (omega arith))

pub times-+ℤ : (a b c : ℤ) → (a +ℤ b) *ℤ c ≡ a *ℤ c +ℤ b *ℤ c
times-+ℤ a b c = *ℤ_comm (a +ℤ b) c ∙ *ℤ-+ℤ c a b ∙ ap₂ (λ x y. x +ℤ y) (*ℤ_comm c a) (*ℤ_comm c b)

-- one more term
pub progression-suc : (z d : ℤ) (n : ℕ) → progression z d (n + 1) ≡ progression z d n +ℤ d
unfolding lib.IntN.one
progression-suc z d n =
    let more : pos (n + 1) *ℤ d ≡ pos n *ℤ d +ℤ pos 1 *ℤ d = times-+ℤ (pos n) (pos 1) d in
    let one : pos 1 *ℤ d ≡ d = *ℤ_comm (pos 1) d ∙ *ℤ-one d in
    omega (arith, ints, more, one)

-- a product with a difference
pub times_difference : (a x y : ℤ) → a *ℤ x ≡ a *ℤ (x -ℤ y) +ℤ a *ℤ y
times_difference a x y = ap (λ z. a *ℤ z) (sym (-ℤ-+ℤ_cancel x y)) ∙ *ℤ-+ℤ a (x -ℤ y) y

-- t x + s y is a term of a progression from (t + s) y on
pub between-progression : (t s : ℕ) (x y : ℤ) → pos t *ℤ x +ℤ pos s *ℤ y ≡ progression (pos (t + s) *ℤ y) (x -ℤ y) t
between-progression t s x y =
    let one : pos t *ℤ x ≡ pos t *ℤ (x -ℤ y) +ℤ pos t *ℤ y = times_difference (pos t) x y in
    let two : pos (t + s) *ℤ y ≡ pos t *ℤ y +ℤ pos s *ℤ y = times-+ℤ (pos t) (pos s) y in
    omega (arith, ints, one, two)

pub Leaves-progression : {m : ℕ} {x y r : ℕ} (n : ℕ) (z d : ℤ) → Leaves m (progression z d n) x → Leaves m d y
    → r ≡ (x + y) % m → Leaves m (progression z d (n + 1)) r
Leaves-progression n z d p q e = rw (progression-suc z d n) (Leaves-add p q e)

pub progression-zero : (z d : ℤ) → progression z d 0 ≡ z
progression-zero z d =
    let none : pos 0 *ℤ d ≡ pos 0 = *ℤ_comm (pos 0) d ∙ *ℤ-zero d in
    omega (arith, ints, none)
