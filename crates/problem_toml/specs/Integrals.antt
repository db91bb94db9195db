-- The integrals of a problem text: the one of a text of version 1, or those that a text of version 2 lists.
use Rattle.std.specs.Prelude.{ℕ, ◌+◌, ◌-◌, List, [], ◌∷◌, length, Result, Ok}
use Rattle.toml.specs.Data.{Members}
use Rattle.residue.specs.declared.class.Term.{Term}
use Rattle.problem_toml.specs.Steps.{◌>>=◌}
use Rattle.problem_toml.specs.Tables.{present, all_known, tables_at, count_within}
use Rattle.problem_toml.specs.Terms.{terms_from}
use Rattle.problem_toml.specs.declared.error.ProblemError.{ProblemError}
use Rattle.problem_toml.specs.declared.name.Name.{Name}
use Rattle.problem_toml.specs.declared.name.Name.TheVariants as key
use Rattle.problem_toml.specs.declared.place.Place.TheVariants as place
use Rattle.problem_toml.specs.declared.version.Version.{Version}
use Rattle.problem_toml.specs.declared.version.Version.TheVariants.{One, Two}

-- the keys of an integral
abbrev pub integral_keys : List Name
integral_keys = key.Term ∷ []

-- integral i, of at least one term; the integrals before it have so many terms, and all together at most 32
unfoldable pub integral_of : ℕ → ℕ → ℕ → Members → Result (List Term) ProblemError
integral_of marks i before doc = do
  _ ← present (place.Integral i) key.Term doc
  _ ← all_known (place.Integral i) integral_keys doc
  terms ← tables_at (place.Integral i) key.Term doc
  _ ← count_within (place.Integral i) key.Term 1 (32 - before) (length terms)
  terms_from Two marks before terms

-- the integrals from index i on
abbrev pub integrals_from : ℕ → ℕ → ℕ → List Members → Result (List (List Term)) ProblemError
integrals_from marks i before [] = Ok []
integrals_from marks i before (doc ∷ docs) = do
  terms ← integral_of marks i before doc
  integrals ← integrals_from marks (i + 1) (before + length terms) docs
  Ok (terms ∷ integrals)

-- the integrals of the tables that are listed at the top
abbrev pub integrals_of : Version → ℕ → List Members → Result (List (List Term)) ProblemError
integrals_of One marks docs = do
  terms ← terms_from One marks 0 docs
  Ok (terms ∷ [])
integrals_of Two marks docs = integrals_from marks 0 0 docs
