-- What is left of a vertex and of a tree under the exponents of psi classes, once the shares of the ends and the powers of the
-- tangent weights are taken out.
use Rattle.std.specs.Prelude.{ℕ, zero, suc, ◌+◌, ◌-◌, nat_lt, ◌==◌, if◌then◌else◌, List, [], ◌∷◌, length, map, sum, ℤ, pos, neg_ℤ}
use Rattle.arithmetic.specs.Fractions.{Fraction, fraction, times, product_of_fractions, sum_of_fractions, power_of_fraction}
use Rattle.trees.specs.Decorated.{DecoratedTree}
use Rattle.classes.specs.declared.class.Term.{Term}
use Rattle.localisation.specs.VertexFraction.{End, difference, multinomial}
use Rattle.localisation.specs.ClassValue.{ends_at, colour_of, exponents_at, term_value}
use Rattle.regrouping.specs.Flags.{flag, flag_sum, share, hub, tangent_part}
use Rattle.regrouping.specs.Spread.{over}
use Rattle.regrouping.specs.TreeParts.{edge_parts, step_part}
use Rattle.regrouping.specs.TermParts.{start}

-- at one end and one mark of exponent k: the flag, times the power k of the difference with its sign changed over the degree
abbrev pub tip_left : List ℤ → ℕ → End → ℕ → Fraction
tip_left ws c e k = times (flag ws c e) (power_of_fraction (fraction (neg_ℤ (difference ws c e)) (pos e.degree)) k)

-- the power of the sum of the flags at s ends and t marks whose exponents have the sum k: at a leaf its share has taken two of them
abbrev pub power_left : ℕ → ℕ → ℕ → ℕ
power_left (suc zero) t k = t - k
power_left s t k = s + t - 3 - k

-- exponents whose sum is above 0
abbrev pub psi_left : List ℤ → ℕ → List End → List ℕ → Fraction
psi_left ws c (e ∷ []) (k ∷ []) = tip_left ws c e k
psi_left ws c es ks =
    if nat_lt (length es + length ks - 3) (sum ks) then fraction (pos 0) (pos 1) else
    times (power_of_fraction (flag_sum ws c es) (power_left (length es) (length ks) (sum ks)))
    (fraction (pos (multinomial (length es + length ks - 3) ks)) (pos 1))

-- any exponents
abbrev pub vertex_left : List ℤ → ℕ → List End → List ℕ → Fraction
vertex_left ws c es ks =
    if sum ks == 0 then times (hub ws c es) (power_of_fraction (flag_sum ws c es) (length ks)) else psi_left ws c es ks

-- the parts of a vertex of colour c with these ends and exponents, multiplied
abbrev pub parts_with : List ℤ → ℕ → List End → Fraction → Fraction
parts_with ws c es left =
    times (tangent_part ws c (length es)) (times (product_of_fractions (map (share ws c (length es)) es)) left)

-- what is left of the vertex v under a term
abbrev pub left_at : List ℤ → Term → DecoratedTree → ℕ → Fraction
left_at ws term g v = vertex_left ws (colour_of g v) (ends_at g v) (exponents_at term g v)

-- the parts of a tree under a term, multiplied, where rest are the steps of a walk but the first
abbrev pub parts_under : List ℤ → Term → DecoratedTree → List (ℕ × ℕ) → Fraction
parts_under ws term g rest =
    times (product_of_fractions (map (step_part ws g) rest))
    (times (product_of_fractions (edge_parts ws g)) (over g.vertices (left_at ws term g)))

-- what one term adds, whatever its exponents are ..
abbrev pub term_under : List ℤ → DecoratedTree → List (ℕ × ℕ) → Term → Fraction
term_under ws g rest term = times (start ws g) (times (parts_under ws term g rest) (term_value ws term g))

-- .. and all terms
abbrev pub contribution_under : List ℤ → List Term → DecoratedTree → List (ℕ × ℕ) → Fraction
contribution_under ws terms g rest = sum_of_fractions (map (term_under ws g rest) terms)
