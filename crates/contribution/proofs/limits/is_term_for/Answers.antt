-- A term with too many powers, or with powers whose sum is too large, is out of bounds; otherwise the test of the
-- powers decides. If the powers together are within the bound, so is the exponent of each mark.
use Rattle.contribution.proofs.ExponentBounds.{bounded, too_many, too_high, enough}
use Rattle.contribution.proofs.limits.is_term_for.Goals as goal

pub returns-then-powers-gt16-clause-exact : goal.returns-then-powers-gt16-clause-exact
returns-then-powers-gt16-clause-exact c =
    too_many c.args.marks c.args.term.now c.as_slice-powers.result.now c.as_slice-powers.ensures c.if-powers-gt16.true

pub returns-clause-exact : goal.returns-clause-exact
returns-clause-exact c =
    bounded c.are_powers_for.result c.args.marks c.args.term.now c.as_slice-powers.result.now c.total_power-total.result c.as_slice-powers.ensures c.if-powers-gt16.false
    c.total_power-total.ensures c.if-total-gt151.false c.are_powers_for.ensures

pub returns-clause-enough : goal.returns-clause-enough
returns-clause-enough c =
    enough c.are_powers_for.result c.args.marks c.args.term.now
    (bounded c.are_powers_for.result c.args.marks c.args.term.now c.as_slice-powers.result.now c.total_power-total.result c.as_slice-powers.ensures c.if-powers-gt16.false
    c.total_power-total.ensures c.if-total-gt151.false c.are_powers_for.ensures)

pub returns-then-total-gt151-clause-exact : goal.returns-then-total-gt151-clause-exact
returns-then-total-gt151-clause-exact c =
    too_high c.args.marks c.args.term.now c.as_slice-powers.result.now c.total_power-total.result c.as_slice-powers.ensures c.total_power-total.ensures c.if-total-gt151.true
