-- What a `Tree` stands for.
use Rattle.std.specs.Prelude.{◌≡◌, ◌-◌, ◌+◌, ◌==◌, ◌&&◌, nat_le, nat_lt, Bool, true, sum, take, drop}
use Rattle.std.specs.List.{list_all}
use Rattle.trees.specs.Decorated.{DecoratedTree, TreeShape, is_decorated, all_trees}
use Rattle.trees.specs.Members.{IsIn}
use Rattle.decorated_tree.specs.declared.tree.Tree.{Tree}

-- the decorated tree that the used entries give
abbrev pub tree_view : Tree → DecoratedTree
tree_view t = record {
  vertices = t.n;
  edges = t.edges;
  colours = take t.n t.colours;
  degrees = take (t.n - 1) t.degrees;
  marks = take t.m t.marks;
}

-- the entries past the used ones are 0
abbrev pub is_padded : Tree → Bool
is_padded t =
    list_all (λ x. x == 0) (drop t.n t.colours) && list_all (λ x. x == 0) (drop (t.n - 1) t.degrees)
    && list_all (λ x. x == 0) (drop t.m t.marks)

-- the used entries give a decorated tree of the shape, and the others are 0
abbrev pub is_tree_of : TreeShape → Tree → Bool
is_tree_of s t = (t.m == s.marks) && is_padded t && is_decorated s (tree_view t)

-- all that is asked of a tree of the shape but that its edges are a tree and their ends have different colours
abbrev pub fits_shape : TreeShape → Tree → Bool
fits_shape s t =
    nat_le 2 t.n && nat_le t.n (s.degree + 1) && (t.m == s.marks) && is_padded t && list_all (λ c. nat_le c s.rank)
    (take t.n t.colours)
    && list_all (λ a. nat_le 1 a) (take (t.n - 1) t.degrees) && (sum (take (t.n - 1) t.degrees) == s.degree)
    && list_all (λ v. nat_lt v t.n) (take t.m t.marks)

-- the used entries are a member of the list of all decorated trees of the shape, and the others are 0
pub record IsListed (s : TreeShape) (t : Tree) : Type 0 where
  pub marks : t.m ≡ s.marks
  pub padding : is_padded t ≡ true
  pub listed : IsIn (tree_view t) (all_trees s)
