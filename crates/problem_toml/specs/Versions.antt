-- The versions of the format. Version 1 has terms at the top; version 2 has integrals there, each with terms of its
-- own.
use Rattle.std.specs.Prelude.{ℕ, pos, ℤ, List, [], ◌∷◌, Result, Ok, Err, if◌then◌else◌}
use Rattle.std.specs.Ordering.{int_eq}
use Rattle.toml.specs.Data.{Members}
use Rattle.problem_toml.specs.Steps.{◌>>=◌}
use Rattle.problem_toml.specs.Tables.{integer_at}
use Rattle.problem_toml.specs.declared.error.ProblemError.{ProblemError}
use Rattle.problem_toml.specs.declared.error.ProblemError.TheVariants.{BadVersion}
use Rattle.problem_toml.specs.declared.name.Name.{Name}
use Rattle.problem_toml.specs.declared.name.Name.TheVariants as key
use Rattle.problem_toml.specs.declared.place.Place.TheVariants.{Top}
use Rattle.problem_toml.specs.declared.version.Version.{Version}
use Rattle.problem_toml.specs.declared.version.Version.TheVariants.{One, Two}

abbrev pub version_by : ℤ → Result Version ProblemError
version_by z = if int_eq z (pos 1) then Ok One else if int_eq z (pos 2) then Ok Two else Err (BadVersion z)

-- the version that a table says it is of
unfoldable pub version_of : Members → Result Version ProblemError
version_of doc = do
  z ← integer_at Top key.Version doc
  version_by z

-- the key of what is summed
abbrev pub list_key : Version → Name
list_key One = key.Term
list_key Two = key.Integral

-- the most terms of a text of version 1, and the most integrals of one of version 2
abbrev pub most_listed : Version → ℕ
most_listed One = 32
most_listed Two = 8

-- the keys at the top that have to be there, besides `version`
abbrev pub needed : Version → List Name
needed version =
    key.Rank ∷ key.Degree ∷ key.Weights ∷ key.Moduli ∷ key.NumeratorBound ∷ key.DenominatorBound ∷ list_key version ∷ []

-- the keys that may be there
abbrev pub known : Version → List Name
known version = key.Version ∷ key.Marks ∷ needed version
