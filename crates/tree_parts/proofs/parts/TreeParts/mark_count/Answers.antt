use Rattle.std.proofs.Common.{sym, ap, length, ◌∙◌}
use Rattle.tree_parts.specs.Parts.{ShapedTree}
use Rattle.tree_parts.proofs.Shaped.{sound}
use Rattle.tree_parts.proofs.parts.TreeParts.mark_count.Goals as goal

pub returns-clause-value : goal.returns-clause-value
returns-clause-value c =
    sym (sound c.self.inside c.self.invariant).marks ∙ ap (λ (p : ShapedTree). length p.tree.marks) c.self.view_is
