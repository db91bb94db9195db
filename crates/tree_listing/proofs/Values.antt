-- What an entry says is the residue of the contribution of its tree.
use Rattle.std.proofs.Common.{◌≡◌, ◌≢◌, ◌⊎◌, inl, inr, ℕ, ◌+◌, ◌*◌, ◌<◌, [], length, slice_index, get_or, Some, None, if◌then◌else◌, sym, ap, ap₂, ◌∙◌}
use Rattle.std.proofs.lemmas.Bool.{cases_eq, eq-eqb, ne_eqb}
use Rattle.arithmetic.specs.Fractions.{Fraction}
use Rattle.trees.specs.TreeNumbers.{tree_of}
use Rattle.localisation.specs.Contribution.{contribution}
use Rattle.problem.specs.Rules.{ProblemView}
use Rattle.report.proofs.Integrals.{place_within, modulus_there, integral_there}
use Rattle.list_job.specs.declared.entry.Entry.{Entry}
use Rattle.list_job.specs.Entries.{no_residue, Tells, IsEntryOf}
use Rattle.tree_listing.specs.Residues.{residue_of}
use Rattle.tree_listing.specs.Values.{said}
use Rattle.tree_listing.proofs.Residues.{residue_is, residue_is_none}

said_is : (m : ℕ) (f : Fraction) (x : ℕ) → Tells m f x → said x ≡ residue_of m f
said_is m f x t = by_value (cases_eq x no_residue)
  where
    by_value : (x ≡ no_residue) ⊎ (x ≢ no_residue) → said x ≡ residue_of m f
    by_value (inl e) = ap (λ b. if b then None else Some x) (eq-eqb x no_residue e) ∙ sym (residue_is_none m f (t.none e))
    by_value (inr n) = ap (λ b. if b then None else Some x) (ne_eqb x no_residue n) ∙ sym (residue_is m f x (t.residue n))

pub value_said : (p : ProblemView) (k : ℕ) (e : Entry) (i j : ℕ) → IsEntryOf p k e → i < length p.integrals → j < length p.moduli
    → said (slice_index e.values (i * length p.moduli + j))
    ≡ residue_of (slice_index p.moduli j) (contribution p.weights (get_or p.integrals i []) (tree_of p.shape k))
value_said p k e i j is h l =
    said_is _ _ (slice_index e.values (i * length p.moduli + j)) (is.values (i * length p.moduli + j) (place_within p i j h l))
    ∙ ap₂ (λ m terms. residue_of m (contribution p.weights terms (tree_of p.shape k)))
    (modulus_there p.moduli i j l) (integral_there p.moduli p.integrals i j l)
