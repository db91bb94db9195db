-- The fraction of a vertex with a term's classes is what its ends give to their edges, times what the edges leave, with a common factor.
use Rattle.std.proofs.Common.{◌≡◌, ℕ, zero, suc, ◌+◌, ◌-◌, ◌≤◌, List, [], ◌∷◌, length, map, ℤ, pos, ◌+ℤ◌, ◌*ℤ◌, refl, sym, ap, ap₂, ◌∙◌, arith}
use Rattle.std.proofs.Math.IntN.{*ℤ_comm}
use Rattle.arithmetic.specs.Numbers.{power}
use Rattle.arithmetic.specs.Fractions.{Fraction, fraction, times, product_of_fractions, power_of_fraction}
use Rattle.arithmetic.proofs.FractionSums.{*ℤ-pos-one, times-one}
use Rattle.arithmetic.proofs.FractionProducts.{one-times}
use Rattle.classes.specs.declared.class.Class.{Class}
use Rattle.classes.specs.declared.class.Class.TheVariants.{Mark, Hypersurface, Incidence, R1, Contact, Psi}
use Rattle.classes.specs.declared.class.Power.{Power}
use Rattle.classes.specs.declared.class.Term.{Term}
use Rattle.localisation.specs.Weights.{tangent_product}
use Rattle.localisation.specs.VertexFraction.{End, difference, product_of_differences, product_of_degrees, crossed_sum, plain_vertex, stable_vertex}
use Rattle.localisation.specs.ClassValue.{class_vertex}
use Rattle.localisation.proofs.CrossedSums.{crossed-cons}
use Rattle.regrouping.specs.Extensions.{Extends, inverse_fraction}
use Rattle.regrouping.specs.Flags.{flag, flag_sum, share, tangent_part}
use Rattle.regrouping.specs.Dressed.{end_share, term_vertex, dressed_vertex, flag_power}
use Rattle.regrouping.proofs.Factors.{none, at, by, same_places}
use Rattle.regrouping.proofs.ClassPowers.{power-one}
use Rattle.regrouping.proofs.ExtensionLaws.{extends_same, extends_trans, extends_times}
use Rattle.regrouping.proofs.VertexParts.{flag_sum-is, one_flag, stable-is, power-add, vertex_parts-extend}

-- ---- the classes at a leaf
class-leaf : (ws : List ℤ) (class : Class) (c : ℕ) → class_vertex ws class c 1 ≡ fraction (pos 1) (pos 1)
class-leaf ws (Hypersurface b) c = refl
class-leaf ws (R1 k) c = refl
class-leaf ws Contact c = refl
class-leaf ws (Mark j) c = refl
class-leaf ws (Incidence q) c = refl
class-leaf ws (Psi j) c = refl

classes-leaf : (ws : List ℤ) (ps : List Power) (c : ℕ)
    → product_of_fractions (map (λ (p : Power). power_of_fraction (class_vertex ws p.class c 1) p.power) ps) ≡ fraction (pos 1) (pos 1)
classes-leaf ws [] c = refl
classes-leaf ws (p ∷ ps) c =
    ap₂ times (ap (λ f. power_of_fraction f p.power) (class-leaf ws p.class c) ∙ ap₂ fraction (power-one p.power) (power-one p.power)) (classes-leaf ws ps c)

pub term_vertex-leaf : (ws : List ℤ) (term : Term) (c : ℕ) → term_vertex ws term c 1 ≡ fraction (pos 1) (pos 1)
term_vertex-leaf ws term c = classes-leaf ws term.classes c

-- a power of the sum of the flags at one or two ends: one factor for each mark
flag_power-marks : (f : Fraction) (t : ℕ) → power_of_fraction f (0 + t) ≡ power_of_fraction f t
flag_power-marks f t = ap (power_of_fraction f) (let l : 0 + t ≡ t = omega arith in l)

-- ---- a leaf
leaf : (ws : List ℤ) (term : Term) (c : ℕ) (e : End) (t : ℕ)
    → Extends (times (product_of_fractions (map (end_share ws c 1) (e ∷ []))) (times (dressed_vertex ws term c (e ∷ [])) (flag_power ws c (e ∷ []) t)))
    (times (plain_vertex ws c (e ∷ []) t) (term_vertex ws term c 1))
leaf ws term c e t =
    let one = fraction (pos 1) (pos 1) in
    let inside = times (times (inverse_fraction (flag ws c e)) one) (times one (power_of_fraction (flag_sum ws c (e ∷ [])) t)) in
    extends_trans
    (extends_same _ _ (ap (λ f. times (times (inverse_fraction (flag ws c e)) one) (times one f)) (flag_power-marks (flag_sum ws c (e ∷ [])) t) ∙ sym (one-times inside)))
    (extends_trans (vertex_parts-extend ws c (e ∷ []) t (omega arith))
    (extends_same _ _ (sym (ap (times (plain_vertex ws c (e ∷ []) t)) (term_vertex-leaf ws term c) ∙ times-one (plain_vertex ws c (e ∷ []) t)))))

-- ---- two ends, in numbers: the pair, and a power of the sum C / B of the flags
pair_power : (x y a b c : ℤ) (t : ℕ) → y ≡ power x 1
    → Extends (times (fraction (x *ℤ a) c) (power_of_fraction (fraction c b) (suc t))) (fraction (y *ℤ a *ℤ power c t) (power b (suc t)))
pair_power x y a b c t e = record {
  factor = c;
  top = same_places (x ∷ a ∷ c ∷ power c t ∷ []) (by (by (at 0) (at 1)) (by (at 3) (at 2))) (by (by (by (by none (at 0)) (at 1)) (at 3)) (at 2)) refl
      ∙ ap (λ z. z *ℤ a *ℤ power c t *ℤ c) (sym e);
  bottom = same_places (b ∷ c ∷ power b t ∷ []) (by (at 1) (by (at 2) (at 0))) (by (by (at 2) (at 0)) (at 1)) refl;
}

pair_bottom : (ws : List ℤ) (c : ℕ) (e f : End)
    → pos e.degree *ℤ difference ws c f +ℤ pos f.degree *ℤ difference ws c e ≡ crossed_sum ws c (e ∷ f ∷ [])
pair_bottom ws c e f =
    sym (crossed-cons ws c e (f ∷ [])
    ∙ ap₂ (λ x y. x +ℤ y) (ap (λ z. pos e.degree *ℤ z) (*ℤ-pos-one (difference ws c f)))
    (ap (λ z. difference ws c e *ℤ z) (ap (λ g. g.top) (sym (flag_sum-is ws c (f ∷ [])) ∙ one_flag ws c f)) ∙ *ℤ_comm (difference ws c e) (pos f.degree)))

pair_is : (ws : List ℤ) (c : ℕ) (e f : End)
    → plain_vertex ws c (e ∷ f ∷ []) 0 ≡ fraction (tangent_product ws c *ℤ product_of_degrees (e ∷ f ∷ [])) (crossed_sum ws c (e ∷ f ∷ []))
unfolding plain_vertex
pair_is ws c e f =
    ap₂ fraction
    (same_places (tangent_product ws c ∷ pos e.degree ∷ pos f.degree ∷ []) (by (by (at 0) (at 1)) (at 2)) (by (at 0) (by (at 1) (by (at 2) none))) refl)
    (pair_bottom ws c e f)

pair_stable : (ws : List ℤ) (c : ℕ) (e f : End) (t : ℕ) → plain_vertex ws c (e ∷ f ∷ []) (suc t) ≡ stable_vertex ws c (e ∷ f ∷ []) (suc t)
unfolding plain_vertex
pair_stable ws c e f t = refl

pair_marks : (ws : List ℤ) (c : ℕ) (e f : End) (t : ℕ)
    → Extends (times (plain_vertex ws c (e ∷ f ∷ []) 0) (power_of_fraction (flag_sum ws c (e ∷ f ∷ [])) t)) (plain_vertex ws c (e ∷ f ∷ []) t)
pair_marks ws c e f zero = extends_same _ _ (times-one (plain_vertex ws c (e ∷ f ∷ []) 0))
pair_marks ws c e f (suc t) =
    extends_trans
    (extends_same _ _ (ap₂ times (pair_is ws c e f) (ap (λ g. power_of_fraction g (suc t)) (flag_sum-is ws c (e ∷ f ∷ [])))))
    (extends_trans
    (pair_power (tangent_product ws c) (power (tangent_product ws c) 1) (product_of_degrees (e ∷ f ∷ [])) (product_of_differences ws c (e ∷ f ∷ [])) (crossed_sum ws c (e ∷ f ∷ [])) t refl)
    (extends_same _ _ (sym (pair_stable ws c e f t ∙ stable-is ws c (e ∷ f ∷ []) (suc t) t (omega arith)))))

pair : (ws : List ℤ) (term : Term) (c : ℕ) (e f : End) (t : ℕ)
    → Extends (times (product_of_fractions (map (end_share ws c 2) (e ∷ f ∷ []))) (times (dressed_vertex ws term c (e ∷ f ∷ [])) (flag_power ws c (e ∷ f ∷ []) t)))
    (times (plain_vertex ws c (e ∷ f ∷ []) t) (term_vertex ws term c 2))
pair ws term c e f t =
    let p = plain_vertex ws c (e ∷ f ∷ []) 0 in
    let k = term_vertex ws term c 2 in
    let q = power_of_fraction (flag_sum ws c (e ∷ f ∷ [])) t in
    let one = fraction (pos 1) (pos 1) in
    extends_trans (extends_same _ _ (ap (λ f. times (times one (times one one)) (times (times p k) f)) (flag_power-marks (flag_sum ws c (e ∷ f ∷ [])) t) ∙ moved p k q))
    (extends_times (pair_marks ws c e f t) (extends_same k k refl))
  where
    moved : (p k q : Fraction) → (let one = fraction (pos 1) (pos 1) in
        times (times one (times one one)) (times (times p k) q) ≡ times (times p q) k)
    moved p k q =
        ap₂ fraction
        (same_places (p.top ∷ k.top ∷ q.top ∷ []) (by (by none (by none none)) (by (by (at 0) (at 1)) (at 2))) (by (by (at 0) (at 2)) (at 1)) refl)
        (same_places (p.bottom ∷ k.bottom ∷ q.bottom ∷ []) (by (by none (by none none)) (by (by (at 0) (at 1)) (at 2))) (by (by (at 0) (at 2)) (at 1)) refl)

-- ---- more ends
shares-same : (ws : List ℤ) (c s : ℕ) (es : List End) → map (end_share ws c (suc (suc (suc s)))) es ≡ map (share ws c (suc (suc (suc s)))) es
shares-same ws c s [] = refl
shares-same ws c s (e ∷ es) = ap (λ fs. flag ws c e ∷ fs) (shares-same ws c s es)

power_of_fraction-add : (f : Fraction) (a b : ℕ) → power_of_fraction f (a + b) ≡ times (power_of_fraction f a) (power_of_fraction f b)
power_of_fraction-add f a b = ap₂ fraction (power-add f.top a b) (power-add f.bottom a b)

many : (ws : List ℤ) (term : Term) (c : ℕ) (e f g : End) (es' : List End) (t : ℕ) → (let es = e ∷ f ∷ g ∷ es' in
    Extends (times (product_of_fractions (map (end_share ws c (length es)) es)) (times (dressed_vertex ws term c es) (flag_power ws c es t)))
    (times (plain_vertex ws c es t) (term_vertex ws term c (length es))))
many ws term c e f g es' t =
    let es = e ∷ f ∷ g ∷ es' in
    let k = term_vertex ws term c (length es) in
    let h = power_of_fraction (flag_sum ws c es) (length es - 3) in
    let q = power_of_fraction (flag_sum ws c es) t in
    extends_trans
    (extends_same _ _
    (ap₂ times (ap product_of_fractions (shares-same ws c (length es') es))
    (ap (times (times (tangent_part ws c (length es)) k)) (power_of_fraction-add (flag_sum ws c es) (length es - 3) t))
    ∙ moved (product_of_fractions (map (share ws c (length es)) es)) (tangent_part ws c (length es)) k h q))
    (extends_times (vertex_parts-extend ws c es t (omega arith)) (extends_same k k refl))
  where
    moved : (s x k h q : Fraction) → times s (times (times x k) (times h q)) ≡ times (times x (times s (times h q))) k
    moved s x k h q =
        ap₂ fraction
        (same_places (s.top ∷ x.top ∷ k.top ∷ h.top ∷ q.top ∷ []) (by (at 0) (by (by (at 1) (at 2)) (by (at 3) (at 4)))) (by (by (at 1) (by (at 0) (by (at 3) (at 4)))) (at 2)) refl)
        (same_places (s.bottom ∷ x.bottom ∷ k.bottom ∷ h.bottom ∷ q.bottom ∷ []) (by (at 0) (by (by (at 1) (at 2)) (by (at 3) (at 4)))) (by (by (at 1) (by (at 0) (by (at 3) (at 4)))) (at 2)) refl)

-- each vertex that has an end
pub dressed_vertex-extend : (ws : List ℤ) (term : Term) (c : ℕ) (es : List End) (t : ℕ) → 1 ≤ length es
    → Extends (times (product_of_fractions (map (end_share ws c (length es)) es)) (times (dressed_vertex ws term c es) (flag_power ws c es t)))
    (times (plain_vertex ws c es t) (term_vertex ws term c (length es)))
dressed_vertex-extend ws term c [] t h = absurd (omega arith)
dressed_vertex-extend ws term c (e ∷ []) t h = leaf ws term c e t
dressed_vertex-extend ws term c (e ∷ f ∷ []) t h = pair ws term c e f t
dressed_vertex-extend ws term c (e ∷ f ∷ g ∷ es) t h = many ws term c e f g es t
