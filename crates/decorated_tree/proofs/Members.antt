-- Trees of a shape as members of the list of all of them.
use Rattle.std.proofs.Common.{◌≡◌, ◌<◌, Bool, true, eqb-true, eq-eqb}
use Rattle.trees.specs.Decorated.{TreeShape}
use Rattle.std.proofs.lemmas.Bool.{and_parts, and_from}
use Rattle.trees.proofs.AllTrees.{in_all_trees, is_in_all_trees}
use Rattle.decorated_tree.specs.declared.tree.Tree.{Tree}
use Rattle.decorated_tree.specs.Trees.{IsListed, tree_view, is_tree_of}

pub listed_tree : (s : TreeShape) (t : Tree) → IsListed s t → is_tree_of s t ≡ true
listed_tree s t l =
    and_from _ _ (and_from _ _ (eq-eqb t.m s.marks l.marks) l.padding) (is_in_all_trees s (tree_view t) l.listed)

pub tree_listed : (s : TreeShape) (t : Tree) → s.degree < 11 → is_tree_of s t ≡ true → IsListed s t
tree_listed s t small h =
    let p = and_parts _ _ h in
    let q = and_parts _ _ p.0 in
    record { marks = eqb-true t.m s.marks q.0; padding = q.1; listed = in_all_trees s (tree_view t) small p.1 }
