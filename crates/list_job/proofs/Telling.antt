-- What a number of an entry tells, and the values of an entry as they are written.
use Rattle.std.proofs.Common.{◌≡◌, ℕ, ◌+◌, ◌*◌, ◌%◌, ◌<◌, ◌≤◌, length, slice_index, subst, arith, ⊎_elim, mul-le-mul}
use Rattle.std.proofs.lemmas.Bool.{cases_lt}
use Rattle.std.proofs.Math.Nat.{mod-eq_of_lt}
use Rattle.arithmetic.specs.Fractions.{Fraction, IsResidue}
use Rattle.trees.specs.Decorated.{DecoratedTree}
use Rattle.factor_table.specs.declared.table.FactorTable.{FactorTable}
use Rattle.factor_table.specs.declared.table.FactorSeat.{FactorSeat}
use Rattle.table_sum.specs.Words.{IsLater}
use Rattle.table_sum.specs.Trees.{KnowsEdges}
use Rattle.table_sum.proofs.SumLaws.{edges_later}
use Rattle.problem.specs.declared.problem.Problem.{Problem}
use Rattle.list_job.specs.Entries.{no_residue, Tells}

-- each modulus is less than the number that stands for none
pub modulus_small : (p : Problem) (j : ℕ) → j < length p.moduli → slice_index p.moduli j < no_residue
modulus_small p j h = let m = p.rules.moduli.each j 0 h in let limited = m.limited in omega arith

pub tells_residue : (m : ℕ) (f : Fraction) (x : ℕ) → m < no_residue → IsResidue m f x → Tells m f x
tells_residue m f x small r = record {
  residue = λ some. r;
  none = λ e. absurd (let below = r.below in omega arith);
}

-- ---- the edges that a seat knows after each index
pub edges_next : (t : FactorTable) (old new : FactorSeat) (g : DecoratedTree) (n place : ℕ) → IsLater t old new
    → ((q : ℕ) → q < place → KnowsEdges old t g (q % n)) → KnowsEdges new t g (place % n)
    → (q : ℕ) → q < place + 1 → KnowsEdges new t g (q % n)
edges_next t old new g n place later before here q below =
    ⊎_elim (λ earlier. edges_later t old new g (q % n) later (before q earlier))
    (λ past. subst (λ k. KnowsEdges new t g (k % n)) (let l : place ≡ q = omega arith in l) here)
    (cases_lt q place)

-- the indexes of the first integral are those of all moduli
pub edges_all : (t : FactorTable) (s : FactorSeat) (g : DecoratedTree) (a n place : ℕ) → 1 ≤ a → a * n ≤ place
    → ((q : ℕ) → q < place → KnowsEdges s t g (q % n)) → (index : ℕ) → index < n → KnowsEdges s t g index
edges_all t s g a n place some all each index below =
    let whole : 1 * n ≤ a * n = mul-le-mul some (let l : n ≤ n = omega arith in l) in
    subst (KnowsEdges s t g) (mod-eq_of_lt below) (each index (omega arith))
