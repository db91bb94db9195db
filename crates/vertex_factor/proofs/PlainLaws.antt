-- The cases of the fraction of a vertex without psi classes.
use Rattle.std.proofs.Common.{◌≡◌, ℕ, zero, suc, ◌+◌, ◌-◌, ◌≤◌, List, [], ◌∷◌, length, get_or, ℤ, pos, ◌*ℤ◌, refl, sym, ap, subst, arith}
use Rattle.arithmetic.specs.Numbers.{power, Leaves}
use Rattle.arithmetic.specs.Fractions.{fraction}
use Rattle.localisation.specs.Weights.{tangent_product}
use Rattle.localisation.specs.VertexFraction.{End, product_of_differences, product_of_degrees, crossed_sum, plain_vertex, stable_vertex}
use Rattle.vertex_factor.specs.Ends.{end, ends_of}

pub length-ends_of : (ps : List (ℕ × ℕ)) → length (ends_of ps) ≡ length ps
length-ends_of [] = refl
length-ends_of (p ∷ ps) = ap suc (length-ends_of ps)

pub plain-stable : (ws : List ℤ) (c : ℕ) (es : List End) (t : ℕ) → 3 ≤ length es + t
    → plain_vertex ws c es t ≡ stable_vertex ws c es t
unfolding plain_vertex
plain-stable ws c [] t h = refl
plain-stable ws c (e ∷ []) zero h = absurd (omega arith)
plain-stable ws c (e ∷ []) (suc zero) h = absurd (omega arith)
plain-stable ws c (e ∷ []) (suc (suc t)) h = refl
plain-stable ws c (e ∷ f ∷ []) zero h = absurd (omega arith)
plain-stable ws c (e ∷ f ∷ []) (suc t) h = refl
plain-stable ws c (e ∷ f ∷ g ∷ es) t h = refl

pub plain-marked : (ws : List ℤ) (c : ℕ) (es : List End) (t : ℕ) → length es ≡ 1 → t ≡ 1
    → plain_vertex ws c es t ≡ fraction (pos 1) (pos 1)
unfolding plain_vertex
plain-marked ws c [] t h k = absurd (omega arith)
plain-marked ws c (e ∷ []) t h k = rw k
plain-marked ws c (e ∷ f ∷ es) t h k = absurd (omega arith)

-- the top and the bottom of the stable case, with n for the number of the ends
pub stable_top : {m x : ℕ} (ws : List ℤ) (c : ℕ) (es : List End) (t n : ℕ) → length es ≡ n
    → Leaves m (power (tangent_product ws c) (n - 1) *ℤ product_of_degrees es *ℤ power (crossed_sum ws c es) (n + t - 3)) x
    → Leaves m (stable_vertex ws c es t).top x
stable_top {m} {x} ws c es t n e l =
    subst
    (λ k. Leaves m (power (tangent_product ws c) (k - 1) *ℤ product_of_degrees es *ℤ power (crossed_sum ws c es) (k + t - 3)) x)
    (sym e) l

pub stable_bottom : {m x : ℕ} (ws : List ℤ) (c : ℕ) (es : List End) (t n : ℕ) → length es ≡ n
    → Leaves m (power (product_of_differences ws c es) (n + t - 2)) x → Leaves m (stable_vertex ws c es t).bottom x
stable_bottom {m} {x} ws c es t n e l =
    subst (λ k. Leaves m (power (product_of_differences ws c es) (k + t - 2)) x) (sym e) l

pub one_end : (ps : List (ℕ × ℕ)) → length ps ≡ 1 → ends_of ps ≡ end (get_or ps 0 (0, 0)).0 (get_or ps 0 (0, 0)).1 ∷ []
one_end [] h = absurd (omega arith)
one_end (p ∷ []) h = refl
one_end (p ∷ q ∷ ps) h = absurd (omega arith)
