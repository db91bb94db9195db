-- Laws of fractions with a common factor: they go through products and sums, and residues go down to what is extended.
use Rattle.std.proofs.Common.{◌≡◌, ℕ, ◌*◌, ◌%◌, ◌<◌, List, [], ◌∷◌, map, ℤ, pos, ◌+ℤ◌, ◌*ℤ◌, nat_abs, refl, sym, ap, ap₂, subst, ◌∙◌, arith}
use Rattle.std.proofs.Math.IntN.{*ℤ_comm}
use Rattle.std.proofs.Math.Nat.{mod-eq_of_lt}
use Rattle.arithmetic.specs.Numbers.{reduce, gcd}
use Rattle.arithmetic.specs.Fractions.{Fraction, times, plus, product_of_fractions, sum_of_fractions, IsResidue}
use Rattle.arithmetic.proofs.IntegerLaws.{*ℤ_assoc, *ℤ-+ℤ}
use Rattle.arithmetic.proofs.ReduceLaws.{reduce-*ℤ, reduce_below, divides_from_same, same_from_divides}
use Rattle.arithmetic.proofs.FractionSums.{*ℤ-pos-one}
use Rattle.arithmetic.proofs.Divisors.{IsUnit, IsUnit-from_gcd}
use Rattle.arithmetic.proofs.Congruences.{Same, same_refl, same_of_eq, same_sym, same_trans, same_mul}
use Rattle.arithmetic.proofs.Residues.{gcd-reduce, unit_first, unit_second}
use Rattle.regrouping.specs.Extensions.{Extends}
use Rattle.regrouping.proofs.Factors.{at, by, same_places}

pub extends_same : (f g : Fraction) → f ≡ g → Extends f g
extends_same f g e = record {
  factor = pos 1;
  top = ap (λ h. h.top) e ∙ sym (*ℤ-pos-one g.top);
  bottom = ap (λ h. h.bottom) e ∙ sym (*ℤ-pos-one g.bottom);
}

pub extends_trans : {f g h : Fraction} → Extends f g → Extends g h → Extends f h
extends_trans {f} {g} {h} p q = record {
  factor = q.factor *ℤ p.factor;
  top = p.top ∙ ap (λ z. z *ℤ p.factor) q.top ∙ *ℤ_assoc h.top q.factor p.factor;
  bottom = p.bottom ∙ ap (λ z. z *ℤ p.factor) q.bottom ∙ *ℤ_assoc h.bottom q.factor p.factor;
}

pub crosswise : (a b c d : ℤ) → a *ℤ b *ℤ (c *ℤ d) ≡ a *ℤ c *ℤ (b *ℤ d)
crosswise a b c d = same_places (a ∷ b ∷ c ∷ d ∷ []) (by (by (at 0) (at 1)) (by (at 2) (at 3))) (by (by (at 0) (at 2)) (by (at 1) (at 3))) refl

pub extends_times : {f g h k : Fraction} → Extends f g → Extends h k → Extends (times f h) (times g k)
extends_times {f} {g} {h} {k} p q = record {
  factor = p.factor *ℤ q.factor;
  top = ap₂ (λ x y. x *ℤ y) p.top q.top ∙ crosswise g.top p.factor k.top q.factor;
  bottom = ap₂ (λ x y. x *ℤ y) p.bottom q.bottom ∙ crosswise g.bottom p.factor k.bottom q.factor;
}

pub extends_plus : {f g h k : Fraction} → Extends f g → Extends h k → Extends (plus f h) (plus g k)
extends_plus {f} {g} {h} {k} p q = record {
  factor = p.factor *ℤ q.factor;
  top = ap₂ (λ x y. x +ℤ y) (ap₂ (λ x y. x *ℤ y) p.top q.bottom ∙ crosswise g.top p.factor k.bottom q.factor)
      (ap₂ (λ x y. x *ℤ y) q.top p.bottom ∙ crosswise k.top q.factor g.bottom p.factor ∙ ap (λ z. k.top *ℤ g.bottom *ℤ z) (*ℤ_comm q.factor p.factor))
      ∙ gathered (g.top *ℤ k.bottom) (k.top *ℤ g.bottom) (p.factor *ℤ q.factor);
  bottom = ap₂ (λ x y. x *ℤ y) p.bottom q.bottom ∙ crosswise g.bottom p.factor k.bottom q.factor;
}
  where
    gathered : (a b c : ℤ) → a *ℤ c +ℤ b *ℤ c ≡ (a +ℤ b) *ℤ c
    gathered a b c = ap₂ (λ x y. x +ℤ y) (*ℤ_comm a c) (*ℤ_comm b c) ∙ sym (*ℤ-+ℤ c a b) ∙ *ℤ_comm c (a +ℤ b)

-- over a list
pub extends_product : {A : Type 0} (f g : A → Fraction) (xs : List A) → ((x : A) → Extends (f x) (g x))
    → Extends (product_of_fractions (map f xs)) (product_of_fractions (map g xs))
extends_product f g [] h = extends_same _ _ refl
extends_product f g (x ∷ xs) h = extends_times (h x) (extends_product f g xs h)

pub extends_sum : {A : Type 0} (f g : A → Fraction) (xs : List A) → ((x : A) → Extends (f x) (g x))
    → Extends (sum_of_fractions (map f xs)) (sum_of_fractions (map g xs))
extends_sum f g [] h = extends_same _ _ refl
extends_sum f g (x ∷ xs) h = extends_plus (h x) (extends_sum f g xs h)

-- the residue of a fraction is that of what it extends
pub IsResidue-extends : (m : ℕ) (f g : Fraction) (x : ℕ) → 1 < m → Extends f g → IsResidue m f x → IsResidue m g x
IsResidue-extends m f g x h e r =
    let some : 0 < m = omega arith in
    let whole : gcd (nat_abs (g.bottom *ℤ e.factor)) m ≡ 1 = subst (λ z. gcd (nat_abs z) m ≡ 1) e.bottom r.unit in
    let k = unit_second m g.bottom e.factor h whole in
    let unit = IsUnit-from_gcd m (reduce m e.factor) some (gcd-reduce m e.factor some ∙ k) in
    let both : reduce m (pos x *ℤ g.bottom *ℤ e.factor) ≡ reduce m (g.top *ℤ e.factor) =
    ap (reduce m) (*ℤ_assoc (pos x) g.bottom e.factor ∙ ap (λ z. pos x *ℤ z) (sym e.bottom))
    ∙ same_from_divides m (pos x *ℤ f.bottom) f.top some r.divides ∙ ap (reduce m) e.top in
    record {
      below = r.below;
      unit = unit_first m g.bottom e.factor h whole;
      divides = divides_from_same m (pos x *ℤ g.bottom) g.top some
          (cancelled m (reduce m (pos x *ℤ g.bottom)) (reduce m g.top) (reduce m e.factor) unit (reduce_below m (pos x *ℤ g.bottom) some) (reduce_below m g.top some)
          (sym (reduce-*ℤ m (pos x *ℤ g.bottom) e.factor some) ∙ both ∙ reduce-*ℤ m g.top e.factor some));
    }
  where
    turned : (a k i : ℕ) → a * k * i ≡ a * (k * i)
    turned a k i = omega arith

    cancelled : (m a b k : ℕ) → IsUnit m k → a < m → b < m → (a * k) % m ≡ (b * k) % m → a ≡ b
    cancelled m a b k u ha hb e =
        let one : (c : ℕ) → Same m (c * k * u.inverse) c =
        λ c. same_trans (same_of_eq m _ _ (turned c k u.inverse)) (same_trans (same_mul (same_refl m c) (record { is = u.is })) (same_of_eq m (c * 1) c (omega arith))) in
        let same : Same m a b = same_trans (same_sym (one a)) (same_trans (same_mul (record { is = e }) (same_refl m u.inverse)) (one b)) in
        sym (mod-eq_of_lt ha) ∙ same.is ∙ mod-eq_of_lt hb
