-- The cases of the fraction of a vertex under exponents of psi classes.
use Rattle.std.proofs.Common.{◌≡◌, ◌≢◌, ℕ, ◌+◌, ◌-◌, ◌<◌, ◌≤◌, Bool, true, false, List, [], ◌∷◌, length, sum, nat_lt, ◌==◌, if◌then◌else◌, ℤ, pos, ◌-ℤ◌, ◌*ℤ◌, neg_ℤ, refl, sym, ap, subst, ◌∙◌, arith}
use Rattle.std.proofs.lemmas.Int.{ints}
use Rattle.std.proofs.lemmas.Bool.Decides.{nat_tests}
use Rattle.std.proofs.lemmas.List.Sums.{sum_by-cons}
use Rattle.arithmetic.specs.Numbers.{power, Leaves}
use Rattle.arithmetic.specs.Fractions.{fraction}
use Rattle.localisation.specs.Weights.{tangent_product}
use Rattle.localisation.specs.VertexFraction.{End, product_of_differences, product_of_degrees, crossed_sum, vertex_fraction, psi_vertex, stable_psi_vertex, multinomial}

pub negated_difference : (x y : ℤ) → neg_ℤ (x -ℤ y) ≡ y -ℤ x
negated_difference x y = omega (arith, ints)

chosen : {A : Type 0} (x y : A) (b c : Bool) → b ≡ c → (if b then x else y) ≡ (if c then x else y)
chosen x y b c e = ap (λ t. if t then x else y) e

-- with exponents, of which the sum is not 0
with_exponents : (ws : List ℤ) (c : ℕ) (es : List End) (ks : List ℕ) → sum ks ≢ 0
    → vertex_fraction ws c es ks ≡ psi_vertex ws c es ks
with_exponents ws c es ks h = chosen _ _ (sum ks == 0) false (grind (arith, nat_tests))

pub one_end_one_mark : (ws : List ℤ) (c : ℕ) (es : List End) (ks : List ℕ) (e : End) (k : ℕ) → es ≡ e ∷ []
    → length ks ≡ 1 → k ≡ sum ks → k ≢ 0
    → vertex_fraction ws c es ks ≡ psi_vertex ws c (e ∷ []) (k ∷ [])
one_end_one_mark ws c es [] e k he hk s h = absurd (omega arith)
one_end_one_mark ws c es (j ∷ []) e k he hk s h =
    let same : k ≡ j = s ∙ (let one = sum_by-cons (λ x. x) j [] in omega (arith, one)) in
    rw (he, same) (with_exponents ws c (e ∷ []) (j ∷ []) (λ z. h (s ∙ z)))
one_end_one_mark ws c es (j ∷ l ∷ ks) e k he hk s h = absurd (omega arith)

stable_choice : (ws : List ℤ) (c : ℕ) (es : List End) (ks : List ℕ) → 3 ≤ length es + length ks
    → psi_vertex ws c es ks
    ≡ (if nat_lt (length es + length ks - 3) (sum ks) then fraction (pos 0) (pos 1) else stable_psi_vertex ws c es ks)
unfolding psi_vertex
stable_choice ws c [] ks h = refl
stable_choice ws c (e ∷ []) [] h = refl
stable_choice ws c (e ∷ []) (k ∷ []) h = absurd (omega arith)
stable_choice ws c (e ∷ []) (k ∷ l ∷ ks) h = refl
stable_choice ws c (e ∷ f ∷ es) ks h = refl

pub above_dimension : (ws : List ℤ) (c : ℕ) (es : List End) (ks : List ℕ) → 3 ≤ length es + length ks
    → length es + length ks - 3 < sum ks
    → vertex_fraction ws c es ks ≡ fraction (pos 0) (pos 1)
above_dimension ws c es ks h above =
    with_exponents ws c es ks (omega arith) ∙ stable_choice ws c es ks h
    ∙ chosen _ _ (nat_lt (length es + length ks - 3) (sum ks)) true (grind (arith, nat_tests))

pub within_dimension : (ws : List ℤ) (c : ℕ) (es : List End) (ks : List ℕ) → 3 ≤ length es + length ks → sum ks ≢ 0
    → sum ks ≤ length es + length ks - 3
    → vertex_fraction ws c es ks ≡ stable_psi_vertex ws c es ks
within_dimension ws c es ks h some within =
    with_exponents ws c es ks some ∙ stable_choice ws c es ks h
    ∙ chosen _ _ (nat_lt (length es + length ks - 3) (sum ks)) false (grind (arith, nat_tests))

-- the top and the bottom of the stable case, with the numbers as they are computed
pub stable_psi_top : {m x : ℕ} (ws : List ℤ) (c : ℕ) (es : List End) (ks : List ℕ) (s left ways : ℕ) → length es ≡ s
    → left ≡ s + length ks - 3 - sum ks → ways ≡ multinomial (s + length ks - 3) ks
    → Leaves m (power (tangent_product ws c) (s - 1) *ℤ product_of_degrees es *ℤ power (crossed_sum ws c es) left *ℤ pos ways) x
    → Leaves m (stable_psi_vertex ws c es ks).top x
stable_psi_top {m} {x} ws c es ks s left ways e f g l =
    let at_left =
    subst
    (λ n. Leaves m (power (tangent_product ws c) (s - 1) *ℤ product_of_degrees es *ℤ power (crossed_sum ws c es) n *ℤ pos ways) x) f l in
    let at_ways =
    subst
    (λ n. Leaves m (power (tangent_product ws c) (s - 1) *ℤ product_of_degrees es *ℤ power (crossed_sum ws c es) (s + length ks - 3 - sum ks) *ℤ pos n) x) g at_left in
    subst
    (λ n. Leaves m (power (tangent_product ws c) (n - 1) *ℤ product_of_degrees es *ℤ power (crossed_sum ws c es) (n + length ks - 3 - sum ks) *ℤ pos (multinomial (n + length ks - 3) ks)) x)
    (sym e) at_ways

pub stable_psi_bottom : {m x : ℕ} (ws : List ℤ) (c : ℕ) (es : List End) (ks : List ℕ) (s left : ℕ) → length es ≡ s
    → left ≡ s + length ks - 3 - sum ks → 3 ≤ s + length ks → sum ks ≤ s + length ks - 3
    → Leaves m (power (product_of_differences ws c es) (left + 1)) x → Leaves m (stable_psi_vertex ws c es ks).bottom x
stable_psi_bottom {m} {x} ws c es ks s left e f stable within l =
    let exponent : left + 1 ≡ length es + length ks - 2 - sum ks = omega arith in
    subst (λ n. Leaves m (power (product_of_differences ws c es) n) x) exponent l

pub some_exponents : (ks : List ℕ) → sum ks ≢ 0 → 1 ≤ length ks
some_exponents [] h = absurd (h refl)
some_exponents (k ∷ ks) h = omega arith
