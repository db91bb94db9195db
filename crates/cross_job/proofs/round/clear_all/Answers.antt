use Rattle.std.proofs.Common.{ℕ, ◌+◌, ◌<◌, List, [], length, get_or, set, ◌≢◌, All, sym, subst, arith, ⊎_elim, get_or-set_same, get_or-set_other, length-set}
use Rattle.std.proofs.lemmas.Bool.{cases_eq}
use Rattle.cross_job.specs.declared.part.CrossPart.{CrossPart}
use Rattle.cross_job.specs.Cross.{AreReady, StandFor, AreSeatsOf, seats_of}
use Rattle.cross_job.specs.CrossParts.{parts_of}
use Rattle.cross_job.proofs.round.clear_all.Goals as goal

-- one more part that was cleared
cleared_more : (P : CrossPart → Type 0) (parts : List CrossPart) (i : ℕ) (new : CrossPart) → i < length parts
    → ((k : ℕ) (d : CrossPart) → k < i → P (get_or parts k d)) → P new → (k : ℕ) (d : CrossPart) → k < i + 1
    → P (get_or (set parts i new) k d)
cleared_more P parts i new within before here k d lt =
    ⊎_elim
    (λ same. subst (λ j. P (get_or (set parts i new) j d)) same (subst P (sym (get_or-set_same parts i new d within)) here))
    (λ other. let ne : k ≢ i = λ e. other (sym e) in
    subst P (sym (get_or-set_other parts i k new d ne)) (before k d (omega arith)))
    (cases_eq i k)

-- one part of all that was changed
all_set : (P : CrossPart → Type 0) (parts : List CrossPart) (i : ℕ) (new : CrossPart) → i < length parts → All P parts → P new
    → All P (set parts i new)
all_set P parts i new within all here k d lt =
    ⊎_elim
    (λ same. subst (λ j. P (get_or (set parts i new) j d)) same (subst P (sym (get_or-set_same parts i new d within)) here))
    (λ other. let ne : k ≢ i = λ e. other (sym e) in
    subst P (sym (get_or-set_other parts i k new d ne)) (all k d (let e = length-set parts i new in omega arith)))
    (cases_eq i k)

pub loop-part-preserved : goal.loop-part-preserved
loop-part-preserved c = record {
  cleared = λ v all k d lt.
      cleared_more
      (λ part. AreReady v (parts_of part) × StandFor v (parts_of part) []) c.loop-part.parts c.loop-part.part-index c.clear.new.self
      (omega arith)
      (c.loop-part.invariant.cleared v all)
      (c.clear.ensures.empty v (c.loop-part.invariant.seats v all c.loop-part.part-index _ (omega arith))) k d lt;
  seats = λ v all.
      all_set (λ part. AreSeatsOf (seats_of (parts_of part)) v.sums) c.loop-part.parts c.loop-part.part-index c.clear.new.self
      (omega arith)
      (c.loop-part.invariant.seats v all)
      (subst (λ ss. AreSeatsOf ss v.sums) (sym c.clear.ensures.seats) (c.loop-part.invariant.seats v all c.loop-part.part-index _ (omega arith)));
}

pub returns : goal.returns
returns c = λ v all k d lt.
    c.loop-part.invariant.cleared v all k d
    (let past = c.loop-part-test.false in let kept = c.loop-part.auto.parts in omega arith)
