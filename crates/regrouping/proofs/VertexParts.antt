-- A vertex's fraction is the product of its parts.
use Rattle.std.proofs.Common.{◌≡◌, ℕ, zero, suc, ◌+◌, ◌-◌, ◌≤◌, List, [], ◌∷◌, length, map, ℤ, pos, ◌+ℤ◌, ◌*ℤ◌, refl, sym, ap, ap₂, ◌∙◌, arith}
use Rattle.std.proofs.Math.IntN.{*ℤ_comm}
use Rattle.arithmetic.specs.Numbers.{power}
use Rattle.arithmetic.specs.Fractions.{Fraction, fraction, times, plus, product_of_fractions, power_of_fraction}
use Rattle.arithmetic.proofs.IntegerLaws.{*ℤ_assoc}
use Rattle.arithmetic.proofs.FractionSums.{*ℤ-pos-one, plus-zero}
use Rattle.localisation.specs.Weights.{tangent_product}
use Rattle.localisation.specs.VertexFraction.{End, difference, product_of_differences, product_of_degrees, crossed_sum, plain_vertex, stable_vertex}
use Rattle.regrouping.specs.Extensions.{Extends, inverse_fraction}
use Rattle.regrouping.specs.Flags.{flag, flag_sum, share, tangent_part, vertex_parts}
use Rattle.regrouping.proofs.Factors.{none, at, by, same_places}
use Rattle.regrouping.proofs.ClassPowers.{power-one}
use Rattle.regrouping.proofs.ExtensionLaws.{extends_same, extends_trans}
use Rattle.localisation.proofs.CrossedSums.{crossed-cons}

-- ---- the sum and the product of the flags
pub flag_sum-is : (ws : List ℤ) (c : ℕ) (es : List End) → flag_sum ws c es ≡ fraction (crossed_sum ws c es) (product_of_differences ws c es)
flag_sum-is ws c [] = refl
flag_sum-is ws c (e ∷ es) =
    ap (plus (flag ws c e)) (flag_sum-is ws c es)
    ∙ ap₂ fraction (ap (λ z. pos e.degree *ℤ product_of_differences ws c es +ℤ z) (*ℤ_comm (crossed_sum ws c es) (difference ws c e)) ∙ sym (crossed-cons ws c e es)) refl

pub flags-are : (ws : List ℤ) (c : ℕ) (es : List End)
    → product_of_fractions (map (flag ws c) es) ≡ fraction (product_of_degrees es) (product_of_differences ws c es)
flags-are ws c [] = refl
flags-are ws c (e ∷ es) = ap (times (flag ws c e)) (flags-are ws c es)

pub tangent-is : (ws : List ℤ) (c s : ℕ) → tangent_part ws c s ≡ fraction (power (tangent_product ws c) (s - 1)) (pos 1)
tangent-is ws c s = ap (fraction (power (tangent_product ws c) (s - 1))) (power-one (s - 1))

pub power-add : (z : ℤ) (a b : ℕ) → power z (a + b) ≡ power z a *ℤ power z b
power-add z a zero = ap (power z) (let l : a + 0 ≡ a = omega arith in l) ∙ sym (*ℤ-pos-one (power z a))
power-add z a (suc b) =
    ap (power z) (let l : a + suc b ≡ suc (a + b) = omega arith in l) ∙ ap (λ y. y *ℤ z) (power-add z a b)
    ∙ *ℤ_assoc (power z a) (power z b) z

-- ---- the stable case, in numbers: T^(s-1) a C^h / (B B^h) with C^t / B^t
stable_parts : (x a b c : ℤ) (h t n : ℕ) → h + t ≡ n
    → Extends (times (fraction x (pos 1)) (times (fraction a b) (times (power_of_fraction (fraction c b) h) (power_of_fraction (fraction c b) t))))
    (fraction (x *ℤ a *ℤ power c n) (power b (suc n)))
stable_parts x a b c h t n e = record {
  factor = pos 1;
  top = same_places (x ∷ a ∷ power c h ∷ power c t ∷ []) (by (at 0) (by (at 1) (by (at 2) (at 3)))) (by (by (by (at 0) (at 1)) (by (at 2) (at 3))) none) refl
      ∙ ap (λ z. x *ℤ a *ℤ z *ℤ pos 1) (sym (power-add c h t) ∙ ap (power c) e);
  bottom = same_places (b ∷ power b h ∷ power b t ∷ []) (by none (by (at 0) (by (at 1) (at 2)))) (by (by (by (at 1) (at 2)) (at 0)) none) refl
      ∙ ap (λ z. z *ℤ b *ℤ pos 1) (sym (power-add b h t) ∙ ap (power b) e);
}

-- ---- one end: one over its flag, and the marks
abbrev one_parts : ℤ → ℤ → ℕ → Fraction
one_parts d a t =
    times (fraction (pos 1) (pos 1)) (times (times (fraction d a) (fraction (pos 1) (pos 1)))
    (times (fraction (pos 1) (pos 1)) (power_of_fraction (fraction a d) t)))

no_mark : (d a : ℤ) → Extends (one_parts d a 0) (fraction d a)
no_mark d a = record {
  factor = pos 1;
  top = same_places (d ∷ []) (by none (by (by (at 0) none) (by none none))) (by (at 0) none) refl;
  bottom = same_places (a ∷ []) (by none (by (by (at 0) none) (by none none))) (by (at 0) none) refl;
}

one_mark : (d a : ℤ) → Extends (one_parts d a 1) (fraction (pos 1) (pos 1))
one_mark d a = record {
  factor = d *ℤ a;
  top = same_places (d ∷ a ∷ []) (by none (by (by (at 0) none) (by none (by none (at 1))))) (by none (by (at 0) (at 1))) refl;
  bottom = same_places (d ∷ a ∷ []) (by none (by (by (at 1) none) (by none (by none (at 0))))) (by none (by (at 0) (at 1))) refl;
}

more_marks : (d a : ℤ) (t : ℕ) → Extends (one_parts d a (suc (suc t))) (fraction (pos 1 *ℤ a *ℤ power a t) (power d (suc t)))
more_marks d a t = record {
  factor = d *ℤ a;
  top = same_places (d ∷ a ∷ power a t ∷ []) (by none (by (by (at 0) none) (by none (by (by (at 2) (at 1)) (at 1)))))
      (by (by (by none (at 1)) (at 2)) (by (at 0) (at 1))) refl;
  bottom = same_places (d ∷ a ∷ power d t ∷ []) (by none (by (by (at 1) none) (by none (by (by (at 2) (at 0)) (at 0)))))
      (by (by (at 2) (at 0)) (by (at 0) (at 1))) refl;
}

-- ---- two ends: the pair, B/C, and its cases
stable_pair : (x a b c : ℤ) (t : ℕ)
    → Extends (times (fraction x (pos 1)) (times (fraction a b) (times (fraction b c) (power_of_fraction (fraction c b) (suc t)))))
    (fraction (x *ℤ a *ℤ power c t) (power b (suc t)))
stable_pair x a b c t = record {
  factor = b *ℤ c;
  top = same_places (x ∷ a ∷ b ∷ c ∷ power c t ∷ []) (by (at 0) (by (at 1) (by (at 2) (by (at 4) (at 3))))) (by (by (by (at 0) (at 1)) (at 4)) (by (at 2) (at 3))) refl;
  bottom = same_places (b ∷ c ∷ power b t ∷ []) (by none (by (at 0) (by (at 1) (by (at 2) (at 0))))) (by (by (at 2) (at 0)) (by (at 0) (at 1))) refl;
}

plain_pair : (x a b c : ℤ) → Extends (times (fraction x (pos 1)) (times (fraction a b) (times (fraction b c) (power_of_fraction (fraction c b) 0)))) (fraction (x *ℤ a) c)
plain_pair x a b c = record {
  factor = b;
  top = same_places (x ∷ a ∷ b ∷ []) (by (at 0) (by (at 1) (by (at 2) none))) (by (by (at 0) (at 1)) (at 2)) refl;
  bottom = same_places (b ∷ c ∷ []) (by none (by (at 0) (by (at 1) none))) (by (at 1) (at 0)) refl;
}

-- ---- the parts and the fraction of a vertex, in these numbers
pub shares-are : (ws : List ℤ) (c s : ℕ) (es : List End) → map (share ws c (suc (suc s))) es ≡ map (flag ws c) es
shares-are ws c s [] = refl
shares-are ws c s (e ∷ es) = ap (λ fs. flag ws c e ∷ fs) (shares-are ws c s es)

pub one_flag : (ws : List ℤ) (c : ℕ) (e : End) → flag_sum ws c (e ∷ []) ≡ flag ws c e
one_flag ws c e = plus-zero (flag ws c e)

one-are : (ws : List ℤ) (c : ℕ) (e : End) (t : ℕ) → vertex_parts ws c (e ∷ []) t ≡ one_parts (difference ws c e) (pos e.degree) t
one-are ws c e t =
    ap (λ f. times (fraction (pos 1) (pos 1)) (times (times (inverse_fraction (flag ws c e)) (fraction (pos 1) (pos 1)))
    (times (fraction (pos 1) (pos 1)) (power_of_fraction f t)))) (one_flag ws c e)

pair-are : (ws : List ℤ) (c : ℕ) (e f : End) (t : ℕ) → (let es = e ∷ f ∷ [] in
    vertex_parts ws c es t ≡ times (fraction (power (tangent_product ws c) 1) (pos 1)) (times (fraction (product_of_degrees es) (product_of_differences ws c es))
    (times (fraction (product_of_differences ws c es) (crossed_sum ws c es)) (power_of_fraction (fraction (crossed_sum ws c es) (product_of_differences ws c es)) t))))
pair-are ws c e f t =
    ap₂ times (tangent-is ws c 2) (ap₂ times (flags-are ws c (e ∷ f ∷ []))
    (ap (λ g. times (inverse_fraction g) (power_of_fraction g t)) (flag_sum-is ws c (e ∷ f ∷ []))))

many-are : (ws : List ℤ) (c : ℕ) (e f g : End) (es' : List End) (t : ℕ) → (let es = e ∷ f ∷ g ∷ es' in
    vertex_parts ws c es t ≡ times (fraction (power (tangent_product ws c) (length es - 1)) (pos 1)) (times (fraction (product_of_degrees es) (product_of_differences ws c es))
    (times (power_of_fraction (fraction (crossed_sum ws c es) (product_of_differences ws c es)) (length es - 3))
    (power_of_fraction (fraction (crossed_sum ws c es) (product_of_differences ws c es)) t))))
many-are ws c e f g es t =
    ap₂ times (tangent-is ws c (length (e ∷ f ∷ g ∷ es)))
    (ap₂ times (ap product_of_fractions (shares-are ws c (suc (length es)) (e ∷ f ∷ g ∷ es)) ∙ flags-are ws c (e ∷ f ∷ g ∷ es))
    (ap (λ h. times (power_of_fraction h (length (e ∷ f ∷ g ∷ es) - 3)) (power_of_fraction h t)) (flag_sum-is ws c (e ∷ f ∷ g ∷ es))))

pub stable-is : (ws : List ℤ) (c : ℕ) (es : List End) (t n : ℕ) → length es + t ≡ n + 3 → stable_vertex ws c es t
    ≡ fraction (power (tangent_product ws c) (length es - 1) *ℤ product_of_degrees es *ℤ power (crossed_sum ws c es) n) (power (product_of_differences ws c es) (suc n))
stable-is ws c es t n e =
    ap₂ (λ i j. fraction (power (tangent_product ws c) (length es - 1) *ℤ product_of_degrees es *ℤ power (crossed_sum ws c es) i) (power (product_of_differences ws c es) j))
    (let l : length es + t - 3 ≡ n = omega arith in l) (let l : length es + t - 2 ≡ suc n = omega arith in l)

-- ---- each case
one_end : (ws : List ℤ) (c : ℕ) (e : End) (t : ℕ) → Extends (vertex_parts ws c (e ∷ []) t) (plain_vertex ws c (e ∷ []) t)
unfolding plain_vertex
one_end ws c e zero = extends_trans (extends_same _ _ (one-are ws c e 0)) (no_mark (difference ws c e) (pos e.degree))
one_end ws c e (suc zero) = extends_trans (extends_same _ _ (one-are ws c e 1)) (one_mark (difference ws c e) (pos e.degree))
one_end ws c e (suc (suc t)) =
    extends_trans (extends_same _ _ (one-are ws c e (suc (suc t))))
    (extends_trans (more_marks (difference ws c e) (pos e.degree) t)
    (extends_same _ _ (
    sym (stable-is ws c (e ∷ []) (suc (suc t)) t (omega arith)
    ∙ ap₂ fraction
    (ap₂ (λ x y. pos 1 *ℤ x *ℤ power y t) (*ℤ-pos-one (pos e.degree)) (ap (λ f. f.top) (sym (flag_sum-is ws c (e ∷ [])) ∙ one_flag ws c e)))
    (ap (λ y. power y (suc t)) (*ℤ-pos-one (difference ws c e)))))))

two_ends : (ws : List ℤ) (c : ℕ) (e f : End) (t : ℕ) → Extends (vertex_parts ws c (e ∷ f ∷ []) t) (plain_vertex ws c (e ∷ f ∷ []) t)
unfolding plain_vertex
two_ends ws c e f zero =
    extends_trans (extends_same _ _ (pair-are ws c e f 0))
    (extends_trans (plain_pair (power (tangent_product ws c) 1) (product_of_degrees (e ∷ f ∷ [])) (product_of_differences ws c (e ∷ f ∷ [])) (crossed_sum ws c (e ∷ f ∷ [])))
    (extends_same _ _ (ap₂ fraction
    (same_places (tangent_product ws c ∷ pos e.degree ∷ pos f.degree ∷ []) (by (by none (at 0)) (by (at 1) (by (at 2) none))) (by (by (at 0) (at 1)) (at 2)) refl)
    (crossed-cons ws c e (f ∷ [])
    ∙ ap₂ (λ x y. x +ℤ y) (ap (λ z. pos e.degree *ℤ z) (*ℤ-pos-one (difference ws c f)))
    (ap (λ z. difference ws c e *ℤ z) (ap (λ g. g.top) (sym (flag_sum-is ws c (f ∷ [])) ∙ one_flag ws c f)) ∙ *ℤ_comm (difference ws c e) (pos f.degree))))))
two_ends ws c e f (suc t) =
    extends_trans (extends_same _ _ (pair-are ws c e f (suc t)))
    (extends_trans (stable_pair (power (tangent_product ws c) 1) (product_of_degrees (e ∷ f ∷ [])) (product_of_differences ws c (e ∷ f ∷ [])) (crossed_sum ws c (e ∷ f ∷ [])) t)
    (extends_same _ _ (sym (stable-is ws c (e ∷ f ∷ []) (suc t) t (omega arith)))))

more_ends : (ws : List ℤ) (c : ℕ) (e f g : End) (es : List End) (t : ℕ)
    → Extends (vertex_parts ws c (e ∷ f ∷ g ∷ es) t) (plain_vertex ws c (e ∷ f ∷ g ∷ es) t)
unfolding plain_vertex
more_ends ws c e f g es' t =
    let es = e ∷ f ∷ g ∷ es' in
    let n = length es - 3 + t in
    extends_trans (extends_same _ _ (many-are ws c e f g es' t))
    (extends_trans (stable_parts (power (tangent_product ws c) (length es - 1)) (product_of_degrees es) (product_of_differences ws c es) (crossed_sum ws c es) (length es - 3) t n refl)
    (extends_same _ _ (sym (stable-is ws c es t n (omega arith)))))

-- the parts of a vertex with an end are its fraction, with a common factor
pub vertex_parts-extend : (ws : List ℤ) (c : ℕ) (es : List End) (t : ℕ) → 1 ≤ length es → Extends (vertex_parts ws c es t) (plain_vertex ws c es t)
vertex_parts-extend ws c [] t h = absurd (omega arith)
vertex_parts-extend ws c (e ∷ []) t h = one_end ws c e t
vertex_parts-extend ws c (e ∷ f ∷ []) t h = two_ends ws c e f t
vertex_parts-extend ws c (e ∷ f ∷ g ∷ es) t h = more_ends ws c e f g es t
