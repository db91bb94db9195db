use Rattle.std.proofs.Common.{◌≡◌, ◌-◌, ◌≤◌, ℕ, sym, ap, ◌∙◌, subst, slice_index_or, length, ◌<◌, [], arith}
use Rattle.factor_table.specs.Seats.{IsSeatOf}
use Rattle.sum_job.specs.Parts.{JobView}
use Rattle.list_job.specs.declared.part.ListPart.{ListPart}
use Rattle.list_job.specs.Parts.{size_of, IsReady, StandsFor}
use Rattle.list_job.specs.Jobs.{view}
use Rattle.list_job.proofs.tests.listed.Goals as goal

fits : (size n : ℕ) → size ≡ n → size ≤ n
fits size n e = omega arith

pub list_numbers-requires-clause-empty : goal.list_numbers-requires-clause-empty
list_numbers-requires-clause-empty g c κs within =
    let job = view c.new-job.result in
    let value = c.new-job.ensures.value in
    let table = ap (λ (j : JobView). j.table) value ∙ c.of-sum.ensures.table in
    subst (λ parts. (k : ℕ) (d : ListPart) → k < length parts → IsReady job (slice_index_or parts k d) × StandsFor job (slice_index_or parts k d) [])
    (sym c.as_mut_slice.ensures.value)
    (c.in_ok-parts.ensures.empty job
    (fits (size_of job) _ (ap size_of value))
    (λ k d lt. subst (IsSeatOf (slice_index_or c.in_ok-table.seats.items k d)) (sym table) (c.in_ok-table.ensures.seated k d lt).0))
