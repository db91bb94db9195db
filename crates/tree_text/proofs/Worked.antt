-- Worked texts of the grammar, and texts that are not.
use Rattle.std.proofs.Common.{[], ◌∷◌, refl}
use Rattle.std.proofs.Common.{lit<, lit≤}
use Rattle.std.specs.Prelude.{codes}
use Rattle.std.specs.Fmt.{digits}
use Rattle.trees.specs.Decorated.{DecoratedTree}
use Rattle.tree_text.specs.Grammar.{IsText}
use Rattle.tree_text.specs.Steps.{after, IsRefusedAt}
use Rattle.tree_text.proofs.Readings.{stopped, unfinished}

-- a text of the grammar that no tree has: its only edge leads from 7 to 3, and there are three colours
no_tree : DecoratedTree
no_tree = record { vertices = 3; edges = (7, 3) ∷ []; colours = 0 ∷ 0 ∷ 99 ∷ []; degrees = 0 ∷ []; marks = 5 ∷ [] }

loose : IsText (codes "edges 7-3:0 colours 0 0 99 marks 5")
unfolding no_tree digits
loose = record {
  parts = no_tree;
  has = record {
    least_edges = lit≤ tt;
    most_edges = lit≤ tt;
    degrees = refl;
    least_colours = lit≤ tt;
    most_colours = lit≤ tt;
    most_marks = lit≤ tt;
    vertices = refl;
    small_ends = refl;
    small_degrees = refl;
    small_colours = refl;
    small_marks = refl;
  };
  is = refl;
}

-- two spaces after the edges: the first twelve bytes begin a text of the grammar
two_spaces : IsRefusedAt (codes "edges 0-1:1  colours 0 1 marks -") 12
unfolding after
two_spaces = stopped (codes "edges 0-1:1  colours 0 1 marks -") 12 _ (lit< tt) refl refl

-- a leading zero
leading_zero : IsRefusedAt (codes "edges 0-01:1 colours 0 1 marks -") 9
unfolding after
leading_zero = stopped (codes "edges 0-01:1 colours 0 1 marks -") 9 _ (lit< tt) refl refl

-- one colour
one_colour : IsRefusedAt (codes "edges 0-1:1 colours 0 marks -") 22
unfolding after
one_colour = stopped (codes "edges 0-1:1 colours 0 marks -") 22 _ (lit< tt) refl refl

-- a text that ends too early
no_marks : IsRefusedAt (codes "edges 0-1:1 colours 0 1 marks") 29
unfolding after
no_marks = unfinished (codes "edges 0-1:1 colours 0 1 marks") _ refl refl
