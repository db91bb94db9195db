use Rattle.arithmetic.proofs.Modular.{Leaves-mul, Leaves-add}
use Rattle.localisation.specs.VertexFraction.{plain_vertex}
use Rattle.vertex_factor.proofs.plain.pair_ratio.Goals as goal

pub returns : goal.returns
unfolding plain_vertex
returns c = record {
  top = Leaves-mul
      (Leaves-mul c.tangent.ensures c.of_u64-first.ensures c.mul-at_first.ensures.value) c.of_u64-second.ensures c.mul.ensures.value;
  bottom = Leaves-add (Leaves-mul c.of_u64-first.ensures c.difference.ensures c.mul-crossed.ensures.value)
      (Leaves-mul c.of_u64-second.ensures c.difference-2.ensures c.mul-other.ensures.value) c.add.ensures.value;
}
