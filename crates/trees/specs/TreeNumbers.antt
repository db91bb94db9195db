-- The number of trees of a shape, the tree of a number and the number of a tree.
-- The numbering is this project's own: a smaller number of vertices comes first, and among the trees with the same number of
-- vertices the digits are, most significant first, the letters of the Prüfer word, the colour of vertex 0, for each further vertex
-- the index of its colour among those other than the colour of its neighbour on the way to vertex 0, the rank of the list of
-- degrees in lexicographic order, and the vertex of each mark.
use Rattle.std.specs.Prelude.{ℕ, zero, suc, ◌+◌, ◌-◌, ◌*◌, nat_lt, if◌then◌else◌, List, [], ◌∷◌, ◌++◌, take, drop, get_or, replicate}
use Rattle.trees.specs.Decorated.{DecoratedTree, TreeShape}
use Rattle.trees.specs.Words.{decoded, encoded}
use Rattle.lists.specs.Digits.{product_of, joined, split}
use Rattle.trees.specs.DegreeLists.{degree_lists, rank_of}
use Rattle.lists.specs.Binomials.{choose}
use Rattle.trees.specs.Walks.{walk_in, coloured, digits_of}

-- the bases of the digits of a tree with n vertices
abbrev pub bases : TreeShape → ℕ → List ℕ
bases s n =
    replicate (n - 2) n ++ (s.rank + 1) ∷ [] ++ replicate (n - 1) s.rank ++ choose (s.degree - 1) (n - 2) ∷ [] ++ replicate s.marks n

-- how many decorated trees have n vertices: n^(n-2) (r+1) r^(n-1) C(d-1, n-2) n^m
abbrev pub trees_with : TreeShape → ℕ → ℕ
trees_with s n = product_of (bases s n)

-- how many have from n vertices on, of so many numbers of vertices
abbrev pub trees_from : TreeShape → ℕ → ℕ → ℕ
trees_from s n zero = 0
trees_from s n (suc more) = trees_with s n + trees_from s (n + 1) more

-- how many decorated trees there are: from 2 to d + 1 vertices
unfoldable pub tree_count : TreeShape → ℕ
tree_count s = trees_from s 2 s.degree

-- the list with this rank, of all lists in lexicographic order
abbrev pub list_of_rank : List (List ℕ) → ℕ → List ℕ
list_of_rank lists rank = get_or lists rank []

-- the edges that the digits of a tree with n vertices stand for
abbrev pub edges_by : ℕ → List ℕ → List (ℕ × ℕ)
edges_by n digits = decoded n (take (n - 2) digits)

-- the colours: the digit of vertex 0 is its colour, and the others are walked away from it
abbrev pub colours_by : ℕ → List (ℕ × ℕ) → List ℕ → List ℕ
colours_by n edges digits = coloured (walk_in n edges (0 ∷ [])) digits digits

-- the tree that the digits stand for
abbrev pub tree_by : TreeShape → ℕ → List ℕ → DecoratedTree
tree_by s n digits = record {
  vertices = n;
  edges = edges_by n digits;
  colours = colours_by n (edges_by n digits) (take n (drop (n - 2) digits));
  degrees = list_of_rank (degree_lists (n - 1) s.degree) (get_or digits (2 * n - 2) 0);
  marks = drop (2 * n - 1) digits;
}

-- the tree of a number, counted from the trees with n vertices on
abbrev pub tree_from : TreeShape → ℕ → ℕ → ℕ → DecoratedTree
tree_from s n zero k = tree_by s n []
tree_from s n (suc more) k =
    if nat_lt k (trees_with s n) then tree_by s n (split (bases s n) k) else tree_from s (n + 1) more (k - trees_with s n)

-- the tree of a number below the count
unfoldable pub tree_of : TreeShape → ℕ → DecoratedTree
tree_of s k = tree_from s 2 s.degree k

-- the digits of a decorated tree
abbrev pub digits_by : TreeShape → DecoratedTree → List ℕ
digits_by s g =
    encoded g.vertices g.edges ++ digits_of (walk_in g.vertices g.edges (0 ∷ [])) g.colours g.colours
    ++ rank_of g.degrees s.degree ∷ [] ++ g.marks

-- the number of a decorated tree
unfoldable pub number_of : TreeShape → DecoratedTree → ℕ
number_of s g = trees_from s 2 (g.vertices - 2) + joined (bases s g.vertices) (digits_by s g)

-- the trees of the numbers from first on, of which there are so many
abbrev pub numbered_trees : TreeShape → ℕ → ℕ → List DecoratedTree
numbered_trees s first zero = []
numbered_trees s first (suc more) = tree_of s first ∷ numbered_trees s (first + 1) more
