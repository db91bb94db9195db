-- The keys that a tree asks for are keys of the table.
use Rattle.std.proofs.Common.{ℕ, ◌<◌, length, arith}
use Rattle.trees.specs.Decorated.{TreeShape}
use Rattle.tree_parts.specs.declared.edges.ColouredEdge.{ColouredEdge}
use Rattle.tree_parts.specs.Edges.{IsEdgeOf}
use Rattle.tree_parts.specs.Ends.{IsEndOf}
use Rattle.factor_table.specs.declared.key.Key.TheVariants.{Edge, ClassEdge}
use Rattle.factor_table.specs.declared.parameters.Parameters.{Parameters}
use Rattle.factor_table.specs.Factors.{HasParts, class_at, IsKeyOf}
use Rattle.table_sum.specs.Ends.{IsEndIn}
use Rattle.table_sum.specs.Trees.{IsShapeIn}

pub edge_key : (p : Parameters) (s : TreeShape) (e : ColouredEdge) → IsShapeIn p s → IsEdgeOf s e
    → IsKeyOf p (Edge e.first e.second e.degree)
edge_key p s e h k =
    let colours = h.colours in let degrees = h.degrees in
    let first = k.first in let second = k.second in let within = k.degree_within in
    record {
      within =
          (omega arith, record { colour_within = omega arith; degree_positive = k.degree_positive; degree_within = omega arith });
      has_fraction = k.different;
    }

pub class_edge_key : (p : Parameters) (s : TreeShape) (e : ColouredEdge) (class : ℕ) → IsShapeIn p s → IsEdgeOf s e
    → class < length p.classes → HasParts (class_at p class)
    → IsKeyOf p (ClassEdge class e.first e.second e.degree)
class_edge_key p s e class h k there has =
    let key = edge_key p s e h k in record {
      within = (there, key.within.0, key.within.1);
      has_fraction = (has, key.has_fraction);
    }

pub end_in : (p : Parameters) (s : TreeShape) (c : ℕ) (e : ℕ × ℕ) → IsShapeIn p s → IsEndOf s c e → IsEndIn p c e
end_in p s c e h k =
    let colours = h.colours in let degrees = h.degrees in let colour = k.colour in let within = k.degree_within in
    record {
      colour_within = omega arith;
      colour_differs = k.different;
      degree_positive = k.degree_positive;
      degree_within = omega arith;
    }
