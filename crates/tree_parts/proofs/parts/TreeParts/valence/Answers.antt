use Rattle.std.proofs.Common.{◌∙◌, ap, sym, length}
use Rattle.tree_parts.proofs.Edgewise.{length-ends_of}
use Rattle.tree_parts.proofs.parts.TreeParts.valence.Goals as goal

pub returns-clause-value : goal.returns-clause-value
returns-clause-value c = sym (length-ends_of c.ends_at.result.now) ∙ ap length c.ends_at.ensures.value
