use Rattle.std.proofs.Common.{length, sum, get_or, ◌+◌, ◌-◌, ◌≡◌, ◌≢◌, ◌<◌, ◌≤◌, pos, arith}
use Rattle.vertex_factor.specs.Ends.{end, ends_of}
use Rattle.vertex_factor.proofs.PlainLaws.{length-ends_of, one_end}
use Rattle.vertex_factor.proofs.PsiLaws.{one_end_one_mark, above_dimension, within_dimension, some_exponents}
use Rattle.vertex_factor.proofs.psi.vertex_psi_ratio.Goals as goal

pub returns-then-special-eq2 : goal.returns-then-special-eq2
returns-then-special-eq2 c =
    let ps = c.args.ends.now in
    let ks = c.args.exponents.now in
    let some : sum ks ≢ 0 = omega arith in
    let marked = some_exponents ks some in
    let one : length ps ≡ 1 = omega (arith, marked) in
    let one_mark : length ks ≡ 1 = omega (arith, marked) in
    rw (one_end_one_mark c.args.setup.now c.args.c (ends_of ps) ks (end (get_or ps 0 (0, 0)).0 (get_or ps 0 (0, 0)).1) c.sum-exponent.result
    (one_end ps one) one_mark c.sum-exponent.ensures c.if-exponent-eq0.false) c.psi_tip.ensures

pub returns-then-special-exponent : goal.returns-then-special-exponent
returns-then-special-exponent c =
    let es = ends_of c.args.ends.now in
    let ks = c.args.exponents.now in
    let ends_are = length-ends_of c.args.ends.now in
    let some : sum ks ≢ 0 = omega arith in
    let marked = some_exponents ks some in
    let stable : 3 ≤ length es + length ks = omega (arith, ends_are, marked) in
    let above : length es + length ks - 3 < sum ks = omega (arith, ends_are) in
    rw (above_dimension c.args.setup.now c.args.c es ks stable above) (c.whole.ensures (pos 0) c.of_u64.ensures)

pub returns : goal.returns
returns c =
    let es = ends_of c.args.ends.now in
    let ks = c.args.exponents.now in
    let ends_are = length-ends_of c.args.ends.now in
    let some : sum ks ≢ 0 = omega arith in
    let marked = some_exponents ks some in
    let stable : 3 ≤ length es + length ks = omega (arith, ends_are, marked) in
    let within : sum ks ≤ length es + length ks - 3 = omega (arith, ends_are) in
    rw (within_dimension c.args.setup.now c.args.c es ks stable some within) c.stable_psi.ensures
