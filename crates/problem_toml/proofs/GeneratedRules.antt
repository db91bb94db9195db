-- The problem of a number keeps the rules.
use Rattle.std.proofs.Common.{◌≡◌, ℕ, zero, suc, ℤ, pos, ◌+◌, ◌%◌, ◌^◌, ◌<◌, ◌≤◌, ◌⊎◌, ◌↔◌, inl, inr, true, false, List, [], ◌∷◌, length, Result, Err, Some, refl, sym, ap, ◌∙◌, subst, ⊎_elim, arith, lit≤, All, mod-lt, position}
use mir.Syntax.{w64}
use mir.Val.{to_z, of_z}
use Rattle.std.proofs.lemmas.Int.{to_z-of_z, fits_signed_from_abs}
use Rattle.std.proofs.Math.Nat.{pow-le-pow_left}
use Rattle.std.proofs.lemmas.List.Elements.{All-cons, All-nil}
use Rattle.arithmetic.specs.Numbers.{gcd}
use Rattle.arithmetic.proofs.Euclid.{last_remainder, gcd_by_euclid}
use Rattle.trees.specs.Decorated.{TreeShape}
use Rattle.trees.specs.TreeNumbers.{tree_count}
use Rattle.decorated_tree.specs.Shapes.{shape_of, within_limits}
use Rattle.decorated_tree.specs.declared.shape.ShapeError.{ShapeError}
use Rattle.decorated_tree.specs.declared.shape.ShapeError.TheVariants.{OutOfLimits, TooManyTrees}
use Rattle.residue.specs.Limits.{IsModulus, IsWeight, AreWeights, is_beyond_limit}
use Rattle.classes.specs.declared.class.Term.{Term}
use Rattle.classes.specs.declared.class.Class.TheVariants.{Hypersurface}
use Rattle.residue.specs.declared.setup.SetupError.{SetupError}
use Rattle.residue.specs.declared.setup.SetupError.TheVariants.{BadCount, BadWeight}
use Rattle.arithmetic.specs.Agreement.{ArePairwiseCoprime}
use Rattle.problem.specs.Rules.{ProblemView, KeepsRules, IsPower, IsTermOf, IsIntegralOf}
use Rattle.problem_toml.specs.Generator.{weights_of_base, quintic, generated_problem}
use Rattle.problem_toml.proofs.ProblemLaws.{no_place}
use Rattle.problem_toml.proofs.Rereading.{none_beyond}

-- ---- the shapes of degree 3 and 4
three_or_four : (d : ℕ) → 3 ≤ d → d ≤ 4 → (d ≡ 3) ⊎ (d ≡ 4)
three_or_four zero h l = absurd (omega arith)
three_or_four (suc zero) h l = absurd (omega arith)
three_or_four (suc (suc zero)) h l = absurd (omega arith)
three_or_four (suc (suc (suc zero))) h l = inl refl
three_or_four (suc (suc (suc (suc zero)))) h l = inr refl
three_or_four (suc (suc (suc (suc (suc d))))) h l = absurd (omega arith)

fits : (d : ℕ) → 3 ≤ d → d ≤ 4 → within_limits (shape_of 4 d 0) ≡ true
fits d h l =
    ⊎_elim (λ e. subst (λ z. within_limits (shape_of 4 z 0) ≡ true) (sym e) refl)
    (λ e. subst (λ z. within_limits (shape_of 4 z 0) ≡ true) (sym e) refl) (three_or_four d h l)

count_three : tree_count (shape_of 4 3 0) ≡ 5620
unfolding tree_count
count_three = refl

count_four : tree_count (shape_of 4 4 0) ≡ 176100
unfolding tree_count
count_four = refl

few : (d : ℕ) → 3 ≤ d → d ≤ 4 → tree_count (shape_of 4 d 0) ≤ 2 ^ 40
few d h l =
    ⊎_elim
    (λ e. subst (λ z. tree_count (shape_of 4 z 0) ≤ 2 ^ 40) (sym e) (subst (λ z. z ≤ 2 ^ 40) (sym count_three) (lit≤ tt)))
    (λ e. subst (λ z. tree_count (shape_of 4 z 0) ≤ 2 ^ 40) (sym e) (subst (λ z. z ≤ 2 ^ 40) (sym count_four) (lit≤ tt)))
    (three_or_four d h l)

pub no_shape_error : (e : ShapeError) (r : Result TreeShape ShapeError) (d : ℕ) → r ≡ Err e → 3 ≤ d → d ≤ 4
    → ((r ≡ Err OutOfLimits) ↔ (within_limits (shape_of 4 d 0) ≡ false))
    → ((r ≡ Err TooManyTrees) ↔ ((within_limits (shape_of 4 d 0) ≡ true) × (2 ^ 40 < tree_count (shape_of 4 d 0)))) → ⊥
no_shape_error OutOfLimits r d is h l out many =
    let f = out.0 is in let t = fits d h l in let c : true ≡ false = sym t ∙ f in cc
no_shape_error TooManyTrees r d is h l out many = let m = (many.0 is).1 in let f = few d h l in omega arith

-- ---- the weights
module _ (g : ℕ) (least : 1 ≤ g) (most : g < 100) where
  pub square : g ^ 2 ≤ 9801
  square = pow-le-pow_left {n = g} {m = 99} (omega arith) 2

  pub cube : g ^ 3 ≤ 970299
  cube = pow-le-pow_left {n = g} {m = 99} (omega arith) 3

  pub fourth : g ^ 4 ≤ 96059601
  fourth = pow-le-pow_left {n = g} {m = 99} (omega arith) 4

  pub are_weights : AreWeights (weights_of_base g)
  are_weights = record {
    at_least_2 = lit≤ tt;
    at_most_13 = lit≤ tt;
    within = All-cons IsWeight (pos 1) (pos g ∷ pos (g ^ 2) ∷ pos (g ^ 3) ∷ pos (g ^ 4) ∷ []) (lit≤ tt)
        (All-cons IsWeight (pos g) (pos (g ^ 2) ∷ pos (g ^ 3) ∷ pos (g ^ 4) ∷ []) (omega arith)
        (All-cons IsWeight (pos (g ^ 2)) (pos (g ^ 3) ∷ pos (g ^ 4) ∷ []) (let s = square in omega arith)
        (All-cons IsWeight (pos (g ^ 3)) (pos (g ^ 4) ∷ []) (let s = cube in omega arith)
        (All-cons IsWeight (pos (g ^ 4)) [] (let s = fourth in omega arith) (All-nil IsWeight)))));
  }

  pub no_setup_error : (e : SetupError) (r : Result (List ℤ) SetupError) (ws : List ℤ) → ws ≡ weights_of_base g
      → r ≡ Err e
      → ((r ≡ Err BadCount) ↔ ((length ws < 2) ⊎ (13 < length ws)))
      → ((place : ℕ) → (r ≡ Err (BadWeight place)) ↔ ((2 ≤ length ws) × (length ws ≤ 13) × (position is_beyond_limit ws ≡ Some place)))
      → ⊥
  no_setup_error BadCount r ws w is count weight =
      let long : length ws ≡ 5 = ap length w in
      ⊎_elim (λ h. absurd (omega arith)) (λ h. absurd (omega arith)) (count.0 is)
  no_setup_error (BadWeight place) r ws w is count weight =
      let there = ((weight place).0 is).2 in
      let none =
      ap (position is_beyond_limit) w ∙ no_place (weights_of_base g)
      (none_beyond (weights_of_base g) are_weights.within) in
      cc

-- a weight as 64 bits keep it
stored : (n k : ℕ) → n ≡ k → k < 9223372036854775808 → to_z w64 (of_z w64 (pos n)) ≡ pos k
stored n k e h = ap (λ z. to_z w64 (of_z w64 (pos z))) e ∙ to_z-of_z w64 (pos k) (fits_signed_from_abs w64 (pos k) h)

pub weights_are : (g a b c : ℕ) → 1 ≤ g → g < 100 → a ≡ g ^ 2 → b ≡ g ^ 3 → c ≡ g ^ 4
    → pos 1 ∷ to_z w64 (of_z w64 (pos g)) ∷ to_z w64 (of_z w64 (pos a)) ∷ to_z w64 (of_z w64 (pos b)) ∷ to_z w64 (of_z w64 (pos c)) ∷ []
    ≡ weights_of_base g
weights_are g a b c least most p q r =
    rw (
      stored g g refl (omega arith),
      stored a (g ^ 2) p (let s = square g least most in omega arith),
      stored b (g ^ 3) q (let s = cube g least most in omega arith),
      stored c (g ^ 4) r (let s = fourth g least most in omega arith),
    )

-- ---- the moduli
pub first_modulus : IsModulus 1000000007
first_modulus = record { odd = refl; at_least_3 = lit≤ tt; limited = lit≤ tt }

pub second_modulus : IsModulus 1000000009
second_modulus = record { odd = refl; at_least_3 = lit≤ tt; limited = lit≤ tt }

coprime : gcd 1000000007 1000000009 ≡ 1
unfolding last_remainder
coprime = gcd_by_euclid _ _ 1 refl

pairwise : ArePairwiseCoprime (1000000007 ∷ 1000000009 ∷ [])
pairwise i zero h l = absurd (omega arith)
pairwise zero (suc zero) h l = coprime
pairwise (suc i) (suc zero) h l = absurd (omega arith)
pairwise i (suc (suc j)) h l = absurd (omega arith)

-- ---- the whole
is_power : IsPower 0 (record { class = Hypersurface 5; power = 1 })
is_power = record { class = record { parameter = (lit≤ tt, lit≤ tt); mark = tt }; least = lit≤ tt; most = lit≤ tt }

is_term : (d : ℕ)
    → IsTermOf (shape_of 4 d 0) (record { coefficient = pos 1; classes = record { class = Hypersurface 5; power = 1 } ∷ [] })
is_term d = record {
  limits = record { coefficient = lit≤ tt; count = lit≤ tt; classes = All-cons (IsPower 0) (record { class = Hypersurface 5; power = 1 }) [] is_power (All-nil (IsPower 0)) };
  dimension = (omega arith);
}

is_integral : (d : ℕ) → All (IsIntegralOf (shape_of 4 d 0)) quintic
is_integral d =
    All-cons (IsIntegralOf (shape_of 4 d 0))
    (record { coefficient = pos 1; classes = record { class = Hypersurface 5; power = 1 } ∷ [] } ∷ []) []
    (record { some = lit≤ tt; each = All-cons (IsTermOf (shape_of 4 d 0)) (record { coefficient = pos 1; classes = record { class = Hypersurface 5; power = 1 } ∷ [] }) [] (is_term d) (All-nil (IsTermOf (shape_of 4 d 0))) })
    (All-nil (IsIntegralOf (shape_of 4 d 0)))

keeps : (number : ℕ) → KeepsRules (generated_problem number)
unfolding generated_problem
keeps number =
    let odd : number % 2 < 2 = mod-lt number (lit≤ tt) in
    let rest : number % 90 < 90 = mod-lt number (lit≤ tt) in
    record {
      shape = fits (3 + number % 2) (omega arith) (omega arith);
      few_trees = few (3 + number % 2) (omega arith) (omega arith);
      one_weight_each = refl;
      weights = are_weights (10 + number % 90) (omega arith) (omega arith);
      moduli = record {
        least = lit≤ tt;
        most = lit≤ tt;
        each = All-cons IsModulus 1000000007 (1000000009 ∷ []) first_modulus
            (All-cons IsModulus 1000000009 [] second_modulus (All-nil IsModulus));
        coprime = pairwise;
        product = lit≤ tt;
      };
      bounds = record { least_top = lit≤ tt; most_top = lit≤ tt; least_bottom = lit≤ tt; most_bottom = lit≤ tt; below = lit≤ tt };
      some_integrals = lit≤ tt;
      few_integrals = lit≤ tt;
      few_terms = lit≤ tt;
      integrals = is_integral (3 + number % 2);
    }

abbrev parts : TreeShape → List ℤ → List ℕ → List (List Term) → ProblemView
parts s ws ms its = record { shape = s; weights = ws; moduli = ms; top_bound = 20000000000000; bottom_bound = 1000; integrals = its }

pub is_generated : (number : ℕ) (s : TreeShape) (ws : List ℤ) (ms : List ℕ) (its : List (List Term))
    → s ≡ shape_of 4 (3 + number % 2) 0 → ws ≡ weights_of_base (10 + number % 90)
    → ms ≡ 1000000007 ∷ 1000000009 ∷ [] → its ≡ quintic
    → record { shape = s; weights = ws; moduli = ms; top_bound = 20000000000000; bottom_bound = 1000; integrals = its }
    ≡ generated_problem number
unfolding generated_problem
is_generated number s ws ms its p q r t =
    ap (λ z. parts z ws ms its) p ∙ ap (λ z. parts (shape_of 4 (3 + number % 2) 0) z ms its) q
    ∙ ap (λ z. parts (shape_of 4 (3 + number % 2) 0) (weights_of_base (10 + number % 90)) z its) r
    ∙ ap (parts (shape_of 4 (3 + number % 2) 0) (weights_of_base (10 + number % 90)) (1000000007 ∷ 1000000009 ∷ [])) t

pub generated_keeps : (number : ℕ) (s : TreeShape) (ws : List ℤ) (ms : List ℕ) (its : List (List Term))
    → s ≡ shape_of 4 (3 + number % 2) 0 → ws ≡ weights_of_base (10 + number % 90)
    → ms ≡ 1000000007 ∷ 1000000009 ∷ [] → its ≡ quintic
    → KeepsRules (record { shape = s; weights = ws; moduli = ms; top_bound = 20000000000000; bottom_bound = 1000; integrals = its })
generated_keeps number s ws ms its p q r t =
    subst KeepsRules (sym (is_generated number s ws ms its p q r t)) (keeps number)
