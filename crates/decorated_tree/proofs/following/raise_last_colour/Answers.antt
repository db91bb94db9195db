use Rattle.std.proofs.Common.{◌-◌, ◌==◌, sym, ◌∙◌, subst, arith, eqb-true}
use Rattle.std.specs.List.{count_by}
use Rattle.decorated_tree.specs.Steps.{AreWithin}
use Rattle.decorated_tree.proofs.Fitting.{edges_within}
use Rattle.decorated_tree.proofs.LastColour.{raised_free, raised_past}
use Rattle.decorated_tree.proofs.following.raise_last_colour.Goals.{else-colour-r-via-then-colour-r+else-not-has_neighbour_of, else-colour-r-via-else-colour-r}
use Rattle.decorated_tree.proofs.following.raise_last_colour.Goals as goal

pub has_neighbour_of-requires : goal.has_neighbour_of-requires
has_neighbour_of-requires c =
    subst (λ m. AreWithin m c.args.edges.now) (sym c.requires.long)
    (edges_within c.args.n c.args.edges.now c.requires.tree)

pub returns-then-not-has_neighbour_of-clause-raised : goal.returns-then-not-has_neighbour_of-clause-raised
returns-then-not-has_neighbour_of-clause-raised c =
    let less = c.if-colour-r.true in
    raised_free c.args.n c.args.r c.args.edges.now c.args.colours.now
    (record { least = c.requires.least; tree = c.requires.tree; long = c.requires.long; within = c.requires.within; differ = c.requires.differ; digits = c.requires.digits })
    (omega arith) (sym c.has_neighbour_of.ensures ∙ c.if-not-has_neighbour_of.true)

pub returns-then-has_one_neighbour-clause-raised : goal.returns-then-has_one_neighbour-clause-raised
returns-then-has_one_neighbour-clause-raised c =
    let less = c.if-colour-r-2.true in
    raised_past c.args.n c.args.r c.args.edges.now c.args.colours.now
    (record { least = c.requires.least; tree = c.requires.tree; long = c.requires.long; within = c.requires.within; differ = c.requires.differ; digits = c.requires.digits })
    (omega arith)
    (elim c.else-colour-r.branch [
      | else-colour-r-via-then-colour-r+else-not-has_neighbour_of w ↦ sym w.has_neighbour_of.ensures ∙ w.if-not-has_neighbour_of.false
      | else-colour-r-via-else-colour-r w ↦ let most = w.if-colour-r.false in absurd (omega arith)
    ])
    (eqb-true (count_by (λ e. e.1 == c.args.n - 1) c.args.edges.now) 1 (sym c.has_one_neighbour.ensures ∙ c.if-has_one_neighbour.true))
