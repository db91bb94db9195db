use Rattle.std.proofs.Common.{[], get_or, slice_index, sym, ◌∙◌, arith}
use Rattle.localisation.specs.Contribution.{contribution}
use Rattle.range_sum.proofs.BadTrees.{bad_by_integral, good_by_integrals, is_lacking}
use Rattle.range_sum.proofs.bad.is_bad_at.Goals as goal

pub returns-then-is_err : goal.returns-then-is_err
returns-then-is_err c =
    let p = c.args.problem.now in
    let g = c.args.parts.now.tree in
    let m = slice_index p.moduli c.args.modulus in
    sym
    (bad_by_integral p.setup p.integrals g m c.loop-integral.integral (let within = c.loop-integral-test.true in let end = c.len-integral-end.ensures in omega arith)
    (sym (is_lacking m (contribution p.setup (get_or p.integrals c.loop-integral.integral []) g) c.tree_residue.result c.is_err.result c.tree_residue.ensures c.is_err.ensures.value)
    ∙ c.if-is_err.true))

pub returns : goal.returns
returns c =
    let p = c.args.problem.now in
    sym
    (good_by_integrals p.setup p.integrals c.args.parts.now.tree (slice_index p.moduli c.args.modulus) c.loop-integral.integral
    (let end = c.len-integral-end.ensures in let past = c.loop-integral-test.false in omega arith) c.loop-integral.invariant)
