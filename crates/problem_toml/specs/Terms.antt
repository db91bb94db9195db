-- The terms of a problem text, which are numbered through all integrals.
use Rattle.std.specs.Prelude.{ℕ, ◌+◌, ℤ, pos, List, [], ◌∷◌, length, Bool, Result, Ok, nat_le, unsigned_abs}
use Rattle.toml.specs.Data.{Members, get_member}
use Rattle.residue.specs.declared.class.Term.{Term}
use Rattle.problem_toml.specs.Classes.{powers_from}
use Rattle.problem_toml.specs.Keys.{key_of}
use Rattle.problem_toml.specs.Steps.{◌>>=◌, keep}
use Rattle.problem_toml.specs.Tables.{present, all_known, integer_or, tables_at, count_within}
use Rattle.problem_toml.specs.declared.error.ProblemError.{ProblemError}
use Rattle.problem_toml.specs.declared.error.ProblemError.TheVariants.{OutOfLimits}
use Rattle.problem_toml.specs.declared.name.Name.{Name}
use Rattle.problem_toml.specs.declared.name.Name.TheVariants as key
use Rattle.problem_toml.specs.declared.place.Place.TheVariants as place
use Rattle.problem_toml.specs.declared.version.Version.{Version}

-- the keys of a term
abbrev pub term_keys : List Name
term_keys = key.Coefficient ∷ key.Classes ∷ []

-- a coefficient is from -1,000,000,000 to 1,000,000,000
abbrev pub is_coefficient : ℤ → Bool
is_coefficient z = nat_le (unsigned_abs z) 1000000000

-- term i, with the coefficient 1 if it is left out, and with 0 to 16 classes
unfoldable pub term_of : Version → ℕ → ℕ → Members → Result Term ProblemError
term_of version marks i doc = do
  _ ← present (place.Term i) key.Classes doc
  _ ← all_known (place.Term i) term_keys doc
  coefficient ← integer_or (place.Term i) key.Coefficient (pos 1) (get_member (key_of key.Coefficient) doc)
  classes ← tables_at (place.Term i) key.Classes doc
  _ ← keep (is_coefficient coefficient) (OutOfLimits (place.Term i) key.Coefficient)
  _ ← count_within (place.Term i) key.Classes 0 16 (length classes)
  powers ← powers_from version marks i 0 classes
  Ok (record { coefficient = coefficient; classes = powers })

-- the terms from number i on
abbrev pub terms_from : Version → ℕ → ℕ → List Members → Result (List Term) ProblemError
terms_from version marks i [] = Ok []
terms_from version marks i (doc ∷ docs) = do
  t ← term_of version marks i doc
  ts ← terms_from version marks (i + 1) docs
  Ok (t ∷ ts)
