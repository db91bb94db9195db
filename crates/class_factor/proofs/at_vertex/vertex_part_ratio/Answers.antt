-- One case for each kind of class: the code computes the top and the bottom as the definition writes them.
use Rattle.std.proofs.Common.{◌≡◌, ℕ, pos, neg_ℤ, ◌-ℤ◌, arith}
use Rattle.std.proofs.lemmas.Int.{ints}
use Rattle.arithmetic.proofs.Modular.{Leaves-sub}
use Rattle.class_factor.proofs.OtherClasses.{other_vertex}
use Rattle.class_factor.proofs.at_vertex.vertex_part_ratio.Goals as goal

below_zero : (k : ℕ) → neg_ℤ (pos k) ≡ pos 0 -ℤ pos k
below_zero k = omega (arith, ints)

pub returns-in-Hypersurface : goal.returns-in-Hypersurface
returns-in-Hypersurface c =
    rw c.in-Hypersurface.is (record { top = c.of_u64-one.ensures; bottom = c.scaled_power.ensures _ c.of_u64-scale.ensures })

pub returns-in-R1 : goal.returns-in-R1
returns-in-R1 c =
    rw c.in-R1.is
    (c.whole.ensures _ (c.scaled_power-in-R1.ensures _ (rw (below_zero c.in-R1.k) (Leaves-sub c.of_u64.ensures c.of_u64-in-R1.ensures c.sub-scale.ensures.value))))

pub returns-in-Contact : goal.returns-in-Contact
returns-in-Contact c =
    rw c.in-Contact.is (c.whole-in-Contact.ensures _ (c.scaled_power-in-Contact.ensures (pos 2) c.of_u64-scale-in-Contact.ensures))

pub returns-in-Mark : goal.returns-in-Mark
returns-in-Mark c =
    rw (other_vertex c.args.setup.now c.args.class.now c.args.c c.args.s c.in-Mark.is) (c.whole-in-Mark.ensures (pos 1) c.of_u64-one.ensures)
