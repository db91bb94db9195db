-- Lists of edges.
use Rattle.std.specs.Prelude.{ℕ, Bool, ◌&&◌, nat_lt, nat_le, List, length}
use Rattle.std.specs.List.{list_all}
use Rattle.trees.specs.Edges.{is_increasing}

-- at most ten pairs u < v, strictly increasing by u and then by v
abbrev pub is_edge_list : List (ℕ × ℕ) → Bool
is_edge_list es = nat_le (length es) 10 && is_increasing es && list_all (λ e. nat_lt e.0 e.1) es
