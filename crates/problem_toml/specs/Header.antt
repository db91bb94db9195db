-- The numbers at the top of a problem text: first that each is of its type, then that each is within its limits.
use Rattle.std.specs.Prelude.{◌≡◌, ℕ, ◌-◌, ◌^◌, ◌<◌, ◌≤◌, ℤ, pos, List, length, true, not, Result, Ok}
use Rattle.std.specs.List.{list_any}
use Rattle.residue.specs.Limits.{is_beyond_limit}
use Rattle.toml.specs.Data.{Members, get_member}
use Rattle.trees.specs.Decorated.{TreeShape}
use Rattle.decorated_tree.specs.Shapes.{shape_of, within_limits}
use Rattle.problem_toml.specs.Keys.{key_of}
use Rattle.problem_toml.specs.Steps.{◌>>=◌, keep}
use Rattle.problem_toml.specs.Tables.{integer_at, integers_at, integer_or, within, count_within}
use Rattle.problem_toml.specs.Versions.{list_key, most_listed}
use Rattle.problem_toml.specs.declared.error.ProblemError.{ProblemError}
use Rattle.problem_toml.specs.declared.error.ProblemError.TheVariants.{OutOfLimits}
use Rattle.problem_toml.specs.declared.header.Header.{Header}
use Rattle.problem_toml.specs.declared.header.Written.{Written}
use Rattle.problem_toml.specs.declared.name.Name.TheVariants.{Rank, Degree, Marks, Weights, Moduli, NumeratorBound, DenominatorBound}
use Rattle.problem_toml.specs.declared.place.Place.TheVariants.{Top}
use Rattle.problem_toml.specs.declared.version.Version.{Version}

-- the numbers as they are written
pub record WrittenView : Type 0 where
  pub rank : ℤ
  pub degree : ℤ
  pub marks : ℤ
  pub weights : List ℤ
  pub moduli : List ℤ
  pub numerator_bound : ℤ
  pub denominator_bound : ℤ

abbrev pub written_view : Written → WrittenView
written_view w = record {
  rank = w.rank;
  degree = w.degree;
  marks = w.marks;
  weights = w.weights.items;
  moduli = w.moduli.items;
  numerator_bound = w.numerator_bound;
  denominator_bound = w.denominator_bound;
}

-- the shape of the decorated trees
abbrev pub header_shape : Header → TreeShape
header_shape h = shape_of h.rank h.degree h.marks

-- the limits of the numbers that are no lists
pub record IsHeader (h : Header) : Type 0 where
  pub shape : within_limits (header_shape h) ≡ true
  pub least_top_bound : 1 ≤ h.top_bound
  pub most_top_bound : h.top_bound < 2 ^ 62
  pub least_bottom_bound : 1 ≤ h.bottom_bound
  pub most_bottom_bound : h.bottom_bound < 2 ^ 62

-- the number of marks, 0 if it is left out
unfoldable pub marks_in : Members → Result ℤ ProblemError
marks_in doc = integer_or Top Marks (pos 0) (get_member (key_of Marks) doc)

-- the numbers at the top, each of its type
unfoldable pub written_of : Members → Result WrittenView ProblemError
written_of doc = do
  rank ← integer_at Top Rank doc
  degree ← integer_at Top Degree doc
  marks ← marks_in doc
  weights ← integers_at Top Weights doc
  moduli ← integers_at Top Moduli doc
  numerator_bound ← integer_at Top NumeratorBound doc
  denominator_bound ← integer_at Top DenominatorBound doc
  Ok (record {
    rank = rank;
    degree = degree;
    marks = marks;
    weights = weights;
    moduli = moduli;
    numerator_bound = numerator_bound;
    denominator_bound = denominator_bound;
  })

-- no weight is out of its limit, and there are 1 to 8 moduli
unfoldable pub lists_fit : List ℤ → List ℤ → Result (Unit {0}) ProblemError
lists_fit weights moduli = do
  _ ← keep (not (list_any is_beyond_limit weights)) (OutOfLimits Top Weights)
  count_within Top Moduli 1 8 (length moduli)

-- the bounds on the numerator and the denominator, each from 1 to 2^62 - 1
unfoldable pub bounds_of : WrittenView → Result (ℕ × ℕ) ProblemError
bounds_of written = do
  top ← within Top NumeratorBound 1 (2 ^ 62 - 1) written.numerator_bound
  bottom ← within Top DenominatorBound 1 (2 ^ 62 - 1) written.denominator_bound
  Ok (top, bottom)

-- the limits, of the number of terms or integrals too
unfoldable pub header_of : Version → WrittenView → ℕ → Result Header ProblemError
header_of version written count = do
  rank ← within Top Rank 1 12 written.rank
  degree ← within Top Degree 1 10 written.degree
  marks ← within Top Marks 0 12 written.marks
  _ ← lists_fit written.weights written.moduli
  bounds ← bounds_of written
  _ ← count_within Top (list_key version) 1 (most_listed version) count
  Ok (record { rank = rank; degree = degree; marks = marks; top_bound = bounds.0; bottom_bound = bounds.1 })
