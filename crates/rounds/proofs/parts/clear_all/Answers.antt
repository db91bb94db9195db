use Rattle.std.proofs.Common.{ℕ, ◌+◌, ◌<◌, List, [], length, get_or, set, ◌≢◌, All, sym, subst, arith, ⊎_elim, get_or-set_same, get_or-set_other, length-set}
use Rattle.std.proofs.lemmas.Bool.{cases_eq}
use Rattle.factor_table.specs.declared.table.FactorTable.{FactorTable}
use Rattle.factor_table.specs.Seats.{IsSeatOf}
use Rattle.sum_job.specs.declared.part.PartSum.{PartSum}
use Rattle.sum_job.specs.Parts.{IsReady, StandsFor}
use Rattle.rounds.proofs.parts.clear_all.Goals as goal

-- one more part that was cleared
cleared_more : (P : PartSum → Type 0) (parts : List PartSum) (i : ℕ) (new : PartSum) → i < length parts
    → ((k : ℕ) (d : PartSum) → k < i → P (get_or parts k d)) → P new → (k : ℕ) (d : PartSum) → k < i + 1
    → P (get_or (set parts i new) k d)
cleared_more P parts i new within before here k d lt =
    ⊎_elim
    (λ same. subst (λ j. P (get_or (set parts i new) j d)) same (subst P (sym (get_or-set_same parts i new d within)) here))
    (λ other. let ne : k ≢ i = λ e. other (sym e) in
    subst P (sym (get_or-set_other parts i k new d ne)) (before k d (omega arith)))
    (cases_eq i k)

-- one part of all that was changed
all_set : (P : PartSum → Type 0) (parts : List PartSum) (i : ℕ) (new : PartSum) → i < length parts → All P parts → P new
    → All P (set parts i new)
all_set P parts i new within all here k d lt =
    ⊎_elim
    (λ same. subst (λ j. P (get_or (set parts i new) j d)) same (subst P (sym (get_or-set_same parts i new d within)) here))
    (λ other. let ne : k ≢ i = λ e. other (sym e) in
    subst P (sym (get_or-set_other parts i k new d ne)) (all k d (let e = length-set parts i new in omega arith)))
    (cases_eq i k)

pub loop-part-preserved : goal.loop-part-preserved
loop-part-preserved c =
    let here : (table : FactorTable) → All (λ part. IsSeatOf part.seat table) c.args.parts.now → IsSeatOf c.clear.new.self.seat table =
    λ table all. subst (λ seat. IsSeatOf seat table) (sym c.clear.ensures.seat) (c.loop-part.invariant.seats table all c.loop-part.part-index _ (omega arith)) in
    record {
      cleared = λ job rules all k d lt.
          cleared_more
          (λ part. IsReady job part × StandsFor job part []) c.loop-part.parts c.loop-part.part-index c.clear.new.self
          (omega arith)
          (c.loop-part.invariant.cleared job rules all)
          (c.clear.ensures.empty job rules (c.loop-part.invariant.seats job.table all c.loop-part.part-index _ (omega arith))) k d lt;
      seats = λ table all.
          all_set (λ part. IsSeatOf part.seat table) c.loop-part.parts c.loop-part.part-index c.clear.new.self
          (omega arith)
          (c.loop-part.invariant.seats table all) (here table all);
    }

pub returns : goal.returns
returns c = λ job rules all k d lt.
    c.loop-part.invariant.cleared job rules all k d
    (let past = c.loop-part-test.false in let kept = c.loop-part.auto.parts in omega arith)
