use Rattle.std.proofs.Common.{◌≡◌, true, false, sym, subst, ◌∙◌}
use Rattle.arithmetic.specs.Fractions.{IsResidue}
use Rattle.residue.specs.Ratios.{IsRatioOf}
use Rattle.localisation.specs.ClassValue.{class_value, class_product}
use Rattle.factor_table.specs.Seats.{parameters_of}
use Rattle.table_sum.proofs.Powers.{residue_times}
use Rattle.table_sum.proofs.ClassLaws.{has_product, whole_value}
use Rattle.table_sum.proofs.class_values.class_value.Goals as goal

pub returns-in_ok-at_vertices-clause-value : goal.returns-in_ok-at_vertices-clause-value
returns-in_ok-at_vertices-clause-value c =
    let column = c.args.column.now in
    let ws = (parameters_of column.table.now).setup in
    let g = c.args.parts.now.tree in
    rw (has_product ws c.args.class.now g (c.has_parts.ensures.0 c.if-has_parts.true))
    (subst (λ class. IsResidue column.modulus.now (class_product ws class g) c.times.result) c.requires.index
    (residue_times column.above c.in_ok-at_edges.ensures.value c.in_ok-at_vertices.ensures.value c.times.ensures.value))

pub returns-else-has_parts-clause-value : goal.returns-else-has_parts-clause-value
returns-else-has_parts-clause-value c =
    let column = c.args.column.now in
    let ws = (parameters_of column.table.now).setup in
    let g = c.args.parts.now.tree in
    whole_value ws c.args.class.now g c.args.parts.now.shape.marks column.modulus.now c.whole_ratio.result c.requires.class
    (λ h. let clash : true ≡ false = sym (c.has_parts.ensures.1 h) ∙ c.if-has_parts.false in cc)
    (subst (λ weights. IsRatioOf column.modulus.now (class_value weights c.args.class.now g) c.whole_ratio.result) c.setup.ensures c.whole_ratio.ensures)
