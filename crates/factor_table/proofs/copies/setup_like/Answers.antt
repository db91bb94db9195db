use Rattle.std.proofs.Common.{◌≡◌, List, length, get_or, take_all, ◌∙◌, sym, ap, subst, ℤ, pos, arith}
use Rattle.residue.specs.Limits.{IsWeight}
use Rattle.factor_table.proofs.Refusals.{never_refused}
use Rattle.factor_table.proofs.copies.setup_like.Goals as goal

pub unreachable-requires : goal.unreachable-requires
unreachable-requires c =
    let ws : List ℤ = c.deref.result.now in let setup : List ℤ = c.args.setup.now in
    let rank = c.rank-colour-end.ensures.value in let limited = c.rank-colour-end.ensures.limited in let positive = c.rank-colour-end.ensures.positive in
    let end = c.loop-colour-test.false in
    let same : ws ≡ setup =
    c.deref.ensures.value ∙ c.loop-colour.invariant.copied ∙ take_all c.loop-colour.colour setup (omega arith) in
    let long : length ws ≡ length setup = ap length same in
    never_refused ws c.in-Err.field-0 (omega arith) (omega arith)
    (λ colour lt. subst (λ (l : List ℤ). IsWeight (get_or l colour (pos 0))) (sym same) (c.loop-colour.invariant.within colour (omega arith)))
    c.in-Err.ensures.count c.in-Err.ensures.weight
