-- Why an answer is `NoUnit`: some fraction of the table has no residue.
use Rattle.std.proofs.Common.{◌≡◌, ◌+◌, ◌<◌, ◌≤◌, ◌&&◌, ℕ, Bool, true, false, List, length, Result, Ok, Err, OnErr, refl, sym, subst}
use Rattle.std.specs.Result.{is_ok}
use Rattle.problem.specs.declared.problem.Problem.{Problem}
use Rattle.problem.specs.Problems.{view}
use Rattle.residue.specs.declared.errors.NoUnit.{NoUnit}
use Rattle.residue.specs.Answers.{GivesResidue}
use Rattle.factor_table.specs.declared.key.Key.{Key}
use Rattle.factor_table.specs.declared.parameters.Parameters.{Parameters}
use Rattle.factor_table.specs.declared.table.FactorTable.{FactorTable}
use Rattle.factor_table.specs.Factors.{modulus_in, fraction_of, IsKeyOf}
use Rattle.factor_table.specs.Seats.{parameters_of}
use Rattle.table_sum.specs.Numberings.{one_numbering}
use Rattle.table_sum.specs.Problems.{IsTableOf}
use Rattle.table_sum.specs.Words.{LacksUnit, LacksSomeUnit}
use Rattle.table_sum.specs.Words.LacksUnit.{at_key, at_vertices}
use Rattle.table_sum.proofs.ProblemLaws.{table_moduli}

-- the factor of a key that is refused
pub lacks_key : (p : Parameters) (index : ℕ) (key : Key) (answer : Result ℕ NoUnit) → IsKeyOf p key
    → GivesResidue (modulus_in p index) (fraction_of p key) answer → OnErr answer (LacksUnit p index)
lacks_key p index key (Ok x) is given = tt
lacks_key p index key (Err e) is given = at_key key is (given.refused.0 refl)

-- one over n! that is refused
pub lacks_numbering : (p : Parameters) (index n : ℕ) (answer : Result ℕ NoUnit) → n ≤ p.degree + 1
    → GivesResidue (modulus_in p index) (one_numbering n) answer → OnErr answer (LacksUnit p index)
lacks_numbering p index n (Ok x) most given = tt
lacks_numbering p index n (Err e) most given = at_vertices n most (given.refused.0 refl)

-- at one modulus of the problem, so for some modulus
pub lacks_some : (p : Problem) (t : FactorTable) (index : ℕ) → IsTableOf (view p) t → index < length p.moduli
    → LacksUnit (parameters_of t) index → LacksSomeUnit t
lacks_some p t index is below lacks =
    (index, subst (λ (ms : List ℕ). index < length ms) (sym (table_moduli p t is)) below, lacks)

-- what follows if the first is false, and if the second is, follows if not both are true
pub either_false : (b c : Bool) (A : Type 0) → (b && c) ≡ false → (b ≡ false → A) → (c ≡ false → A) → A
either_false true c A h f g = g h
either_false false c A h f g = f refl

pub from_err : {X E : Type 0} (r : Result X E) (A : Type 0) → is_ok r ≡ false → OnErr r A → A
from_err (Ok x) A h k = cc
from_err (Err e) A h k = k

pub of_err : {X E : Type 0} {e : E} (r : Result X E) (A : Type 0) → r ≡ Err e → OnErr r A → A
of_err (Ok x) A is k = cc
of_err (Err e) A is k = k

pub on_err : {X E : Type 0} (r : Result X E) (A : Type 0) → A → OnErr r A
on_err (Ok x) A k = tt
on_err (Err e) A k = k
