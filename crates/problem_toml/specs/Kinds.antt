-- The kinds of classes.
use Rattle.std.specs.Prelude.{ℕ, ℤ, List, [], ◌∷◌, Option, Some, None, find, Result, Ok, codes}
use Rattle.std.specs.Str.{bytes_eq}
use Rattle.residue.specs.declared.class.Class.{Class}
use Rattle.residue.specs.declared.class.Class.TheVariants as class
use Rattle.problem_toml.specs.Steps.{◌>>=◌}
use Rattle.problem_toml.specs.Tables.{within}
use Rattle.problem_toml.specs.declared.error.ProblemError.{ProblemError}
use Rattle.problem_toml.specs.declared.kind.Kind.{Kind}
use Rattle.problem_toml.specs.declared.kind.Kind.TheVariants.{Mark, Hypersurface, Incidence, R1, Contact, Psi}
use Rattle.problem_toml.specs.declared.name.Name.{Name}
use Rattle.problem_toml.specs.declared.name.Name.TheVariants as key
use Rattle.problem_toml.specs.declared.place.Place.{Place}
use Rattle.problem_toml.specs.declared.version.Version.{Version}
use Rattle.problem_toml.specs.declared.version.Version.TheVariants.{One, Two}

-- a kind as it is written
abbrev pub word_of : Kind → List ℕ
word_of Mark = codes "mark"
word_of Hypersurface = codes "hypersurface"
word_of Incidence = codes "incidence"
word_of R1 = codes "r1"
word_of Contact = codes "contact"
word_of Psi = codes "psi"

-- the kinds of a version: psi classes are of version 2 alone
abbrev pub kinds_of : Version → List Kind
kinds_of One = Mark ∷ Hypersurface ∷ Incidence ∷ R1 ∷ Contact ∷ []
kinds_of Two = Mark ∷ Hypersurface ∷ Incidence ∷ R1 ∷ Contact ∷ Psi ∷ []

-- the kind that a text writes
abbrev pub kind_of : Version → List ℕ → Option Kind
kind_of version text = find (λ kind. bytes_eq text (word_of kind)) (kinds_of version)

-- the key of the parameter of a kind, if it has one
abbrev pub parameter_key : Kind → Option Name
parameter_key Mark = Some key.Mark
parameter_key Hypersurface = Some key.B
parameter_key Incidence = Some key.Q
parameter_key R1 = Some key.K
parameter_key Contact = None
parameter_key Psi = Some key.Mark

-- the class of a kind whose parameter is z, within its limits: b and k from 1 to 64, q from 2 to 12, a mark from 1 to m
abbrev pub class_of : Place → ℕ → Kind → ℤ → Result Class ProblemError
class_of place marks Mark z = do
  mark ← within place key.Mark 1 marks z
  Ok (class.Mark mark)
class_of place marks Hypersurface z = do
  b ← within place key.B 1 64 z
  Ok (class.Hypersurface b)
class_of place marks Incidence z = do
  q ← within place key.Q 2 12 z
  Ok (class.Incidence q)
class_of place marks R1 z = do
  k ← within place key.K 1 64 z
  Ok (class.R1 k)
class_of place marks Contact z = Ok class.Contact
class_of place marks Psi z = do
  mark ← within place key.Mark 1 marks z
  Ok (class.Psi mark)
