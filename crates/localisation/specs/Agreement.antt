-- Bad trees, whose contribution has no residue modulo some modulus, and the residues of all sums.
use Rattle.std.specs.Prelude.{◌≡◌, ◌≢◌, ℕ, ◌*◌, ◌/◌, ◌%◌, ◌≤◌, ◌<◌, ℤ, nat_abs, List, [], length, slice_index, get_or, Bool, true, ◌==◌, not}
use Rattle.std.specs.List.{list_any}
use Rattle.arithmetic.specs.Numbers.{gcd}
use Rattle.arithmetic.specs.Fractions.{Fraction, IsResidue}
use Rattle.trees.specs.Decorated.{DecoratedTree, TreeShape}
use Rattle.trees.specs.TreeNumbers.{tree_of}
use Rattle.classes.specs.declared.class.Term.{Term}
use Rattle.localisation.specs.Contribution.{contribution}

-- the fraction has no residue modulo m, whatever its top is
abbrev pub lacks_residue : ℕ → Fraction → Bool
lacks_residue m f = not (gcd (nat_abs f.bottom) m == 1)

-- a tree is bad for a modulus if its contribution to some integral has no residue
unfoldable pub is_bad_for : List ℤ → List (List Term) → DecoratedTree → ℕ → Bool
is_bad_for ws integrals g m = list_any (λ terms. lacks_residue m (contribution ws terms g)) integrals

-- a tree is bad if it is bad for some modulus
abbrev pub is_bad_tree : List ℤ → List (List Term) → List ℕ → DecoratedTree → Bool
is_bad_tree ws integrals ms g = list_any (is_bad_for ws integrals g) ms

-- a number is bad if its tree is bad
unfoldable pub is_bad_number : List ℤ → List (List Term) → List ℕ → TreeShape → ℕ → Bool
is_bad_number ws integrals ms shape k = is_bad_tree ws integrals ms (tree_of shape k)

-- k is the least bad number from lo on and below hi
pub record IsLeastBad (bad : ℕ → Bool) (lo hi k : ℕ) : Type 0 where
  pub from : lo ≤ k
  pub below : k < hi
  pub is_bad : bad k ≡ true
  pub least : (j : ℕ) → lo ≤ j → j < k → bad j ≢ true

-- no number from lo on and below hi is bad
abbrev pub NoneBad : (ℕ → Bool) → ℕ → ℕ → Type 0
NoneBad bad lo hi = (j : ℕ) → lo ≤ j → j < hi → bad j ≢ true

-- i is the index of the first modulus for which a tree is bad
pub record IsFirstBad (bad : ℕ → Bool) (ms : List ℕ) (i : ℕ) : Type 0 where
  pub place : i < length ms
  pub is_bad : bad (slice_index ms i) ≡ true
  pub first : (j : ℕ) → j < i → bad (slice_index ms j) ≢ true

-- Residues stand integral by integral, and within one integral modulus by modulus: the modulus at an index ..
abbrev pub modulus_at : List ℕ → ℕ → ℕ
modulus_at ms place = slice_index ms (place % length ms)

-- .. and the integral at an index
abbrev pub integral_at : List ℕ → List (List Term) → ℕ → List Term
integral_at ms integrals place = get_or integrals (place / length ms) []

-- there is a number for each integral and modulus, and each is the residue of the fraction of its integral modulo its
-- modulus
pub record AreResiduesOf (ms : List ℕ) (integrals : List (List Term)) (fraction_of : List Term → Fraction) (xs : List ℕ) : Type 0 where
  pub as_many : length integrals * length ms ≤ length xs
  pub each : (place : ℕ) → place < length integrals * length ms
      → IsResidue (modulus_at ms place) (fraction_of (integral_at ms integrals place)) (slice_index xs place)
