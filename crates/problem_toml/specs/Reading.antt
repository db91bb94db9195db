-- Reading a text as a problem: its rules in their order, and the first of them that is broken.
use Rattle.std.specs.Prelude.{ℕ, ◌+◌, ◌^◌, List, [], ◌∷◌, length, Result, Ok, Err, nat_eq, nat_lt, nat_le, if◌then◌else◌}
use Rattle.std.specs.Option.{ok_or}
use Rattle.std.specs.Str.{is_utf8}
use Rattle.toml.specs.Data.{Members}
use Rattle.toml.specs.Parse.{parse_document}
use Rattle.trees.specs.Decorated.{TreeShape}
use Rattle.trees.specs.TreeNumbers.{tree_count}
use Rattle.classes.specs.declared.class.Term.{Term}
use Rattle.problem.specs.Rules.{ProblemView, dimension_of, powers_degree}
use Rattle.problem_toml.specs.Header.{WrittenView, written_of, header_of, header_shape}
use Rattle.problem_toml.specs.Integrals.{integrals_of}
use Rattle.problem_toml.specs.Moduli.{weights_of, moduli_from, coprime_from, bounds_fit}
use Rattle.problem_toml.specs.Steps.{◌>>=◌, keep}
use Rattle.problem_toml.specs.Tables.{all_present, all_known, tables_at}
use Rattle.problem_toml.specs.Versions.{version_of, list_key, needed, known}
use Rattle.problem_toml.specs.declared.error.ProblemError.{ProblemError}
use Rattle.problem_toml.specs.declared.error.ProblemError.TheVariants.{TooLong, NotToml, WrongDegree, TooManyTrees}
use Rattle.problem_toml.specs.declared.header.Header.{Header}
use Rattle.problem_toml.specs.declared.place.Place.TheVariants.{Top}
use Rattle.problem_toml.specs.declared.version.Version.{Version}

-- the table that the bytes write
unfoldable pub document_of : List ℕ → Result Members ProblemError
document_of text = if is_utf8 text then ok_or (parse_document text) NotToml else Err NotToml

-- the moduli, pairwise coprime, and with the bounds on the fraction below their product
unfoldable pub moduli_of : Header → WrittenView → Result (List ℕ) ProblemError
moduli_of header written = do
  moduli ← moduli_from 0 written.moduli
  _ ← coprime_from 0 moduli
  _ ← bounds_fit moduli header.top_bound header.bottom_bound
  Ok moduli

-- each term, from number i on, has the dimension as its degree
abbrev pub degrees_fit : TreeShape → ℕ → List Term → Result (Unit {0}) ProblemError
degrees_fit s i [] = Ok tt
degrees_fit s i (t ∷ ts) = do
  _ ← keep (nat_eq (powers_degree s.degree t.classes) (dimension_of s))
      (WrongDegree i (powers_degree s.degree t.classes) (dimension_of s))
  degrees_fit s (i + 1) ts

-- the same of all integrals in their order
abbrev pub all_degrees_fit : TreeShape → ℕ → List (List Term) → Result (Unit {0}) ProblemError
all_degrees_fit s i [] = Ok tt
all_degrees_fit s i (terms ∷ integrals) = do
  _ ← degrees_fit s i terms
  all_degrees_fit s (i + length terms) integrals

-- there are at most 2^40 decorated trees of the shape
unfoldable pub shape_fits : TreeShape → Result TreeShape ProblemError
shape_fits s = do
  _ ← keep (nat_le (tree_count s) (2 ^ 40)) TooManyTrees
  Ok s

-- the rules that need the numbers at the top; `docs` are the tables of the terms or of the integrals
unfoldable pub problem_with : Version → Header → WrittenView → List Members → Result ProblemView ProblemError
problem_with version header written docs = do
  weights ← weights_of header.rank written.weights
  moduli ← moduli_of header written
  integrals ← integrals_of version header.marks docs
  _ ← all_degrees_fit (header_shape header) 0 integrals
  shape ← shape_fits (header_shape header)
  Ok (record {
    shape = shape;
    weights = weights;
    moduli = moduli;
    top_bound = header.top_bound;
    bottom_bound = header.bottom_bound;
    integrals = integrals;
  })

-- the problem that a table stands for, or the first rule on it that is broken
unfoldable pub problem_in : Members → Result ProblemView ProblemError
problem_in doc = do
  version ← version_of doc
  _ ← all_present Top (needed version) doc
  _ ← all_known Top (known version) doc
  written ← written_of doc
  docs ← tables_at Top (list_key version) doc
  header ← header_of version written (length docs)
  problem_with version header written docs

-- the same of a text of any length
unfoldable pub reading_of_any_length : List ℕ → Result ProblemView ProblemError
reading_of_any_length text = document_of text >>= problem_in

-- the problem that a text of at most 1,048,576 bytes stands for, or the first rule that it breaks
unfoldable pub reading : List ℕ → Result ProblemView ProblemError
reading text = if nat_lt 1048576 (length text) then Err TooLong else reading_of_any_length text
