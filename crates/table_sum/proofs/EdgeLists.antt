-- Lists along the edges of a tree.
use Rattle.std.proofs.Common.{ℕ, ◌+◌, ◌<◌, List, length, take, get_or, map, sym, subst, All}
use Rattle.std.proofs.lemmas.List.{map_more}
use Rattle.std.proofs.lemmas.List.Elements.{All-push, All-weaker}
use Rattle.factor_table.specs.declared.key.Key.{Key}
use Rattle.factor_table.specs.declared.key.Key.TheVariants.{Edge}
use Rattle.factor_table.specs.declared.table.FactorTable.{FactorTable}
use Rattle.factor_table.specs.declared.table.FactorSeat.{FactorSeat}
use Rattle.factor_table.specs.Seats.{Knows}
use Rattle.tree_parts.specs.declared.edges.ColouredEdge.{ColouredEdge}
use Rattle.table_sum.specs.Words.{IsLater}
use Rattle.table_sum.proofs.Later.{knows_later}

abbrev pub key_of_edge : ColouredEdge → Key
key_of_edge e = Edge e.first e.second e.degree

-- the seat knows all of these keys still
pub all_later : (t : FactorTable) (old new : FactorSeat) (m : ℕ) (keys : List Key) → IsLater t old new
    → All (λ key. Knows old t key m) keys → All (λ key. Knows new t key m) keys
all_later t old new m keys h all =
    All-weaker (λ key. Knows old t key m) (λ key. Knows new t key m) (λ key k. knows_later t old new key m h k) keys all

-- .. and one more
pub one_more : (t : FactorTable) (old new : FactorSeat) (m : ℕ) (es : List ColouredEdge) (i : ℕ) (d : ColouredEdge)
    → i < length es → IsLater t old new
    → All (λ key. Knows old t key m) (map key_of_edge (take i es)) → Knows new t (key_of_edge (get_or es i d)) m
    → All (λ key. Knows new t key m) (map key_of_edge (take (i + 1) es))
one_more t old new m es i d h later all k =
    subst (All (λ key. Knows new t key m)) (sym (map_more key_of_edge es i d h))
    (All-push (λ key. Knows new t key m) (map key_of_edge (take i es)) (key_of_edge (get_or es i d)) (all_later t old new m (map key_of_edge (take i es)) later all) k)
