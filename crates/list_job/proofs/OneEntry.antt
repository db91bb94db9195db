-- The one entry of a number among the parts of a listing.
use Rattle.std.proofs.Common.{◌≡◌, ℕ, ◌+◌, ◌-◌, ◌<◌, ◌≤◌, List, [], ◌∷◌, length, slice_index_or, Some, None, sym, ap, ◌∙◌, subst, arith}
use mathlib.Core.Logic.{dite}
use native.Mathlib.Decide.{ℕ_discrete}
use Rattle.sum_job.specs.Parts.{JobView}
use Rattle.list_job.specs.declared.entry.Entry.{Entry}
use Rattle.list_job.specs.declared.part.ListPart.{ListPart}
use Rattle.list_job.specs.Entries.{IsEntryOf}
use Rattle.list_job.specs.Parts.{entry_at}
use Rattle.list_job.specs.Listings.{AreListing}

no_entry : {e : Entry} → None ≡ Some e → ⊥
no_entry p = cc

same_entry : {e f : Entry} → Some e ≡ Some f → e ≡ f
same_entry p = cc

-- an entry at the place of a number is that of the number
pub found_entry : (job : JobView) (parts : List ListPart) (number worker : ℕ) (d : ListPart) (e : Entry)
    → AreListing job parts → job.first ≤ number → number < job.end → worker < length parts
    → entry_at (slice_index_or parts worker d) (number - job.first) ≡ Some e
    → IsEntryOf job.problem number e
found_entry job parts number worker d e listing from below within is =
    let place = number - job.first in
    let one = listing.once place (omega arith) in
    let exact : IsEntryOf job.problem (job.first + place) e =
    dite (ℕ_discrete worker one.worker)
    (λ same. let there = one.entry d in
    subst (IsEntryOf job.problem (job.first + place))
    (same_entry (sym there.there ∙ ap (λ w. entry_at (slice_index_or parts w d) place) (sym same) ∙ is)) there.is)
    (λ apart. absurd (no_entry (sym (one.others worker d within apart) ∙ is))) in
    subst (λ k. IsEntryOf job.problem k e) (let l : job.first + place ≡ number = omega arith in l) exact

first_of : (parts : List ListPart) → 0 < length parts → ListPart
first_of [] some = absurd (omega arith)
first_of (part ∷ parts) some = part

-- some part has one
pub some_entry : (job : JobView) (parts : List ListPart) (number count : ℕ) → AreListing job parts → job.first ≤ number → number < job.end → length parts ≤ count
    → ((other : ℕ) (d : ListPart) → other < count → entry_at (slice_index_or parts other d) (number - job.first) ≡ None)
    → ⊥
some_entry job parts number count listing from below all none =
    let one = listing.once (number - job.first) (omega arith) in
    let inside = one.within in
    let part = first_of parts (omega arith) in
    let there = (one.entry part).there in
    no_entry (sym (none one.worker part (omega arith)) ∙ there)
