use Rattle.std.proofs.Common.{◌≡◌, ℕ, ◌+◌, ◌%◌, ◌<◌, List, length, slice_index, slice_index_or, take, ap, ◌∙◌, arith}
use Rattle.std.proofs.Math.Nat.{add-mod-mod}
use Rattle.std.specs.Prelude.{sum_by}
use Rattle.std.proofs.lemmas.List.Sums.{sum_by_more}
use Rattle.localisation.specs.Agreement.{modulus_at}
use Rattle.sum_job.specs.declared.part.PartSum.{PartSum}
use Rattle.sum_job.specs.Parts.{sum_at}
use Rattle.sum_job.proofs.sums.add_parts.Goals as goal

-- one more part
more_added : (parts : List PartSum) (i : ℕ) (d : PartSum) (q m initial old new : ℕ) → i < length parts
    → old ≡ (initial + sum_by (sum_at q) (take i parts)) % m → new ≡ (old + sum_at q (slice_index_or parts i d)) % m
    → new ≡ (initial + sum_by (sum_at q) (take (i + 1) parts)) % m
more_added parts i d q m initial old new lt e f =
    let x = sum_at q (slice_index_or parts i d) in
    let s = sum_by (sum_at q) (take i parts) in
    f ∙ ap (λ n. (n + x) % m) e
    ∙ ap (λ n. n % m) (let l : (initial + s) % m + x ≡ x + (initial + s) % m = omega arith in l)
    ∙ add-mod-mod x (initial + s) m
    ∙ ap (λ n. n % m)
    (let more = sum_by_more (sum_at q) parts i d lt in let l : x + (initial + s) ≡ initial + sum_by (sum_at q) (take (i + 1) parts) = omega arith in l)

pub loop-part-preserved : goal.loop-part-preserved
loop-part-preserved c = record {
  size = let kept = c.add_residues.auto.sums in let before = c.loop-part.invariant.size in cc;
  added = λ q h.
      let m = modulus_at c.args.problem.now.moduli q in
      let part = c.part-item.result in
      more_added c.args.parts.now c.loop-part.part-index part q m (slice_index c.args.residues.now q)
      (slice_index c.loop-part.residues q) _ (omega arith) (c.loop-part.invariant.added q h)
      (c.add_residues.ensures.added q h ∙ ap (λ (p : PartSum). (slice_index c.loop-part.residues q + sum_at q p) % m) c.part-item.is);
  reduced = c.add_residues.ensures.reduced;
  rest = λ q h. c.add_residues.ensures.rest q h ∙ c.loop-part.invariant.rest q h;
}
