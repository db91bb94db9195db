use Rattle.std.proofs.lemmas.List.Elements.{All-weaker}
use Rattle.vertex_factor.specs.Ends.{IsEndAt}
use Rattle.vertex_factor.proofs.plain.vertex.Goals as goal

pub returns : goal.returns
returns c = c.residue.ensures _ c.vertex_ratio.ensures

pub vertex_ratio-requires-clause-colours_within : goal.vertex_ratio-requires-clause-colours_within
vertex_ratio-requires-clause-colours_within c =
    All-weaker (IsEndAt c.args.setup.now c.args.c) _ (λ e h. h.colour_within) c.args.ends.now c.requires.ends_at
