use Rattle.arithmetic.proofs.Modular.{Leaves-sub}
use Rattle.factor_table.specs.Factors.{tip_fraction}
use Rattle.factor_table.proofs.plain.tip.Goals as goal

pub returns : goal.returns
returns c = c.residue.ensures (tip_fraction c.args.setup.now c.args.c c.args.u c.args.a) (record {
  top = Leaves-sub c.weight_modulo-at_u.ensures c.weight_modulo.ensures c.sub.ensures.value;
  bottom = c.of_u64.ensures;
})
