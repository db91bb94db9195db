use Rattle.std.proofs.Common.{◌≡◌, arith}
use Rattle.arithmetic.proofs.Modular.{Leaves-mul, Leaves-pow, Leaves-push_sum}
use Rattle.localisation.specs.ClassValue.{incidence_term}
use Rattle.class_factor.proofs.whole.incidence_at.Goals as goal

pub loop-t-preserved : goal.loop-t-preserved
loop-t-preserved c =
    Leaves-push_sum c.loop-t.t (incidence_term c.args.setup.now c.args.q c.args.i c.args.j) c.loop-t.invariant
    (Leaves-mul (Leaves-pow c.loop-t.t c.weight_modulo-at_i.ensures c.pow.ensures.value) (Leaves-pow _ c.weight_modulo-at_j.ensures c.pow-in-loop-t.ensures.value) c.mul-term.ensures.value)
    c.add-sum.ensures.value

pub returns : goal.returns
returns c =
    let all : c.loop-t.t ≡ c.args.q = omega arith in
    let sum = c.loop-t.invariant in
    Leaves-mul c.of_u64.ensures (rw all at sum) c.mul.ensures.value
