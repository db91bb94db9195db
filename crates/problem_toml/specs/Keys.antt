-- The keys of the format.
use Rattle.std.specs.Prelude.{ℕ, List, codes}
use Rattle.problem_toml.specs.declared.name.Name.{Name}
use Rattle.problem_toml.specs.declared.name.Name.TheVariants.{Version, Rank, Degree, Marks, Weights, Moduli, NumeratorBound, DenominatorBound, Term, Integral, Coefficient, Classes, Kind, Mark, B, Q, K, Power}

-- a key as it is written
abbrev pub key_of : Name → List ℕ
key_of Version = codes "version"
key_of Rank = codes "rank"
key_of Degree = codes "degree"
key_of Marks = codes "marks"
key_of Weights = codes "weights"
key_of Moduli = codes "moduli"
key_of NumeratorBound = codes "numerator_bound"
key_of DenominatorBound = codes "denominator_bound"
key_of Term = codes "term"
key_of Integral = codes "integral"
key_of Coefficient = codes "coefficient"
key_of Classes = codes "classes"
key_of Kind = codes "kind"
key_of Mark = codes "mark"
key_of B = codes "b"
key_of Q = codes "q"
key_of K = codes "k"
key_of Power = codes "power"
