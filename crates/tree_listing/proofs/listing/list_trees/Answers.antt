use Rattle.std.proofs.Common.{List, ◌≡◌, ◌≤◌, ℕ, sym, ap, ◌∙◌, subst, slice_index_or, length, take, ◌++◌, ◌<◌, [], arith}
use Rattle.std.proofs.Math.Seq.{take-append_seam}
use Rattle.factor_table.specs.Seats.{IsSeatOf}
use Rattle.sum_job.specs.Parts.{JobView}
use Rattle.list_job.specs.declared.part.ListPart.{ListPart}
use Rattle.list_job.specs.Parts.{size_of, IsReady, StandsFor}
use Rattle.list_job.specs.Jobs.{view}
use Rattle.list_job.specs.Listings.{AreListing}
use Rattle.tree_listing.proofs.listing.list_trees.Goals as goal

fits : (size n : ℕ) → size ≡ n → size ≤ n
fits size n e = omega arith

pub list_numbers-requires-clause-empty : goal.list_numbers-requires-clause-empty
list_numbers-requires-clause-empty g c κs within =
    let job = view c.new-job.result in
    let value = c.new-job.ensures.value in
    let table = ap (λ (j : JobView). j.table) value ∙ c.of-sum.ensures.table in
    subst (λ parts. (k : ℕ) (d : ListPart) → k < length parts → IsReady job (slice_index_or parts k d) × StandsFor job (slice_index_or parts k d) [])
    (sym c.as_mut_slice.ensures.value)
    (c.in_ok-parts.ensures.empty job
    (fits (size_of job) _ (ap size_of value))
    (λ k d lt. subst (IsSeatOf (slice_index_or c.in_ok-table.seats.items k d)) (sym table) (c.in_ok-table.ensures.seated k d lt).0))

-- what a list has once a slice of its whole length is written back
written_back : {X : Type 0} (parts rest taken : List X) (n : ℕ) → length parts ≡ n → taken ≡ take n (parts ++ rest) → taken ≡ parts
written_back parts rest taken n many e = e ∙ ap (λ k. take k (parts ++ rest)) (sym many) ∙ take-append_seam parts rest

pub text_of-requires-clause-listed : goal.text_of-requires-clause-listed
text_of-requires-clause-listed g c =
    let many = c.list_numbers.auto.parts ∙ c.as_mut_slice.ensures.len in
    subst (AreListing (view c.new-job.result)) (sym (written_back c.list_numbers.new.parts _ _ _ many c.as_slice.ensures.value))
    c.in_ok-list_numbers.ensures.listed
