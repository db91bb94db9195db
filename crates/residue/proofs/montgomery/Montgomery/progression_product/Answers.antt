-- After each factor, `term` is the next term of the progression in Montgomery form and `product` the product of the
-- terms so far, for every progression that leaves `first` and `step`.
use Rattle.std.proofs.Common.{◌≡◌, ◌+◌, ◌-◌, ◌≤◌, ℕ, ℤ, pos, ◌*ℤ◌, sym, ◌∙◌, mod-eq_of_lt, subst, arith}
use Rattle.std.proofs.lemmas.Int.{ints}
use Rattle.arithmetic.specs.Numbers.{Leaves, product_below, progression}
use Rattle.arithmetic.proofs.Modular.{Leaves-pos, Leaves-push}
use Rattle.arithmetic.proofs.Progressions.{Leaves-progression, progression-zero}
use Rattle.residue.proofs.MontgomeryLaws.{sum_value}
use Rattle.residue.proofs.montgomery.Montgomery.progression_product.Goals as goal

same : {m x y : ℕ} (z : ℤ) → Leaves m z x → y ≡ x → Leaves m z y
same z p e = rw e p

at_first : {m x y : ℕ} (z d : ℤ) → Leaves m z x → y ≡ x → Leaves m (progression z d 0) y
at_first z d p e = rw (progression-zero z d) (same z p e)

-- the product of one term
one_term : {m x : ℕ} (z d : ℤ) → Leaves m z x → Leaves m (product_below 1 (progression z d)) x
one_term {m} {x} z d p = subst (λ w. Leaves m w x) (sym (once (progression z d 0) ∙ progression-zero z d)) p
  where
    once : (w : ℤ) → pos 1 *ℤ w ≡ w
    once w = omega (arith, ints)

-- the product of no term
no_term : (m : ℕ) → 3 ≤ m → (z d : ℤ) → Leaves m (product_below 0 (progression z d)) 1
no_term m h z d = Leaves-pos m 1 1 (omega arith) (sym (mod-eq_of_lt (omega arith)))

-- the term after one that is not the first
next_term : {m x : ℕ} (z d : ℤ) (k : ℕ) → 1 ≤ k → Leaves m (progression z d (k - 1 + 1)) x → Leaves m (progression z d k) x
next_term {m} {x} z d k h p = let e : k - 1 + 1 ≡ k = omega arith in subst (λ i. Leaves m (progression z d i) x) e p

term_before : {m x : ℕ} (z d : ℤ) (k : ℕ) → Leaves m (progression z d k) x → Leaves m (progression z d (k + 1 - 1)) x
term_before {m} {x} z d k p = let e : k ≡ k + 1 - 1 = omega arith in subst (λ i. Leaves m (progression z d i) x) e p

pub returns-then-count-eq0 : goal.returns-then-count-eq0
returns-then-count-eq0 c = λ z d p q. let none = c.if-count-eq0.true in rw none (no_term _ c.args.self.now.at_least_3 z d)

pub loop-place-init : goal.loop-place-init
loop-place-init c = record {
  term_below = c.enter-term.ensures.below;
  product_below_modulus = c.requires.first_below;
  so_far = λ z d p q. (at_first z d p c.enter-term.ensures.value, one_term z d p);
}

pub loop-place-preserved : goal.loop-place-preserved
loop-place-preserved c = record {
  term_below = c.add-term.ensures.below;
  product_below_modulus = c.times-product.ensures.below;
  so_far = λ z d p q.
      let k = c.loop-place._place in
      let before = c.loop-place.invariant.so_far z d p q in
      let term = next_term z d k (omega arith)
      (Leaves-progression (k - 1) z d before.0 (same d q c.enter-rise.ensures.value) (sum_value _ _ _ _ _ c.add-term.ensures.value)) in
      (term_before z d k term, Leaves-push k (progression z d) before.1 term c.times-product.ensures.value);
}

pub returns : goal.returns
returns c = λ z d p q.
    let all : c.loop-place._place ≡ c.args.count = omega arith in
    let whole = (c.loop-place.invariant.so_far z d p q).1 in
    rw all at whole
