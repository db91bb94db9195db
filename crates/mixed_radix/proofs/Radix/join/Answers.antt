-- From the first digit to the last, the number so far times the product of the bases left, plus the number of the
-- digits left, is the whole number (`IsJoinedUpTo`), so no step goes above the limit.
use Rattle.std.proofs.Common.{arith, rules, inl, inr, ⊎_elim}
use Rattle.mixed_radix.proofs.Suffixes.{join_start, join_step, join_end}
use Rattle.mixed_radix.proofs.Radix.join.Goals as goal

pub loop-base-init : goal.loop-base-init
loop-base-init c =
    join_start _ _ _ _ (search rules) (search rules) (rw (← c.bases-bases.ensures.value) c.bases-bases.ensures.positive) (rw (← c.bases-bases.ensures.value) c.bases-bases.ensures.limited) c.requires

pub overflow_mul-number : goal.overflow_mul-number
overflow_mul-number c =
    let next = join_step _ _ _ _ _ _ _ _ _ (c.in-Some.ensures.steps).0 (c.in-Some.ensures.steps).1 c.loop-base.invariant in
    omega (arith, next.product_limited)

pub overflow_add-number : goal.overflow_add-number
overflow_add-number c =
    let next = join_step _ _ _ _ _ _ _ _ _ (c.in-Some.ensures.steps).0 (c.in-Some.ensures.steps).1 c.loop-base.invariant in
    omega (arith, next.sum_limited)

pub loop-base-preserved : goal.loop-base-preserved
loop-base-preserved c = (join_step _ _ _ _ _ _ _ _ _ (c.in-Some.ensures.steps).0 (c.in-Some.ensures.steps).1 c.loop-base.invariant).next

pub returns : goal.returns
returns c =
    let all = join_end _ _ _ _ _ (⊎_elim (λ h. inl h.1.0) (λ h. inr h.1.0) c.in-None.ensures.steps) c.requires c.loop-base.invariant in
    record { value = all.value; below = all.below; back = all.back }
