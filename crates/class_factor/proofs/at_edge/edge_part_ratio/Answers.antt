-- One case for each kind of class: the code computes the top and the bottom as the definition writes them.
use Rattle.std.proofs.Common.{pos}
use Rattle.arithmetic.proofs.Modular.{Leaves-pow}
use Rattle.class_factor.proofs.OtherClasses.{other_edge}
use Rattle.class_factor.proofs.at_edge.edge_part_ratio.Goals as goal

pub returns-in-Hypersurface : goal.returns-in-Hypersurface
returns-in-Hypersurface c =
    rw c.in-Hypersurface.is
    (record { top = c.sections_product.ensures; bottom = Leaves-pow _ c.of_u64-of_degree.ensures c.pow.ensures.value })

pub returns-in-R1 : goal.returns-in-R1
returns-in-R1 c =
    rw c.in-R1.is
    (record { top = c.negated_inner_product.ensures; bottom = Leaves-pow _ c.of_u64-of_degree.ensures c.pow-in-R1.ensures.value })

pub returns-in-Contact : goal.returns-in-Contact
returns-in-Contact c =
    rw c.in-Contact.is
    (record { top = c.inner_product.ensures; bottom = Leaves-pow _ c.of_u64-of_degree.ensures c.pow-in-Contact.ensures.value })

pub returns-in-Mark : goal.returns-in-Mark
returns-in-Mark c =
    rw (other_edge c.args.setup.now c.args.class.now c.args.i c.args.j c.args.a c.in-Mark.is) (c.whole.ensures (pos 1) c.of_u64-one.ensures)
