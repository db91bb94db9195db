use Rattle.std.proofs.Common.{◌≡◌, ℕ, ◌+◌, ◌%◌, ◌<◌, List, length, slice_index, slice_index_or, take, sym, ap, ◌∙◌, arith}
use Rattle.std.proofs.Math.Nat.{add-mod-mod}
use Rattle.std.specs.Prelude.{sum_by}
use Rattle.std.proofs.lemmas.List.Sums.{sum_by_more}
use Rattle.std.proofs.lemmas.List.{take_all}
use Rattle.localisation.specs.Agreement.{modulus_at}
use Rattle.cross_job.specs.declared.part.CrossPart.{CrossPart}
use Rattle.cross_job.specs.CrossParts.{sum_at}
use Rattle.cross_job.proofs.column.add_column.Goals as goal

-- one more part
more_added : (f : CrossPart → ℕ) (parts : List CrossPart) (i : ℕ) (d : CrossPart) (m initial old new : ℕ) → i < length parts
    → old ≡ (initial + sum_by f (take i parts)) % m → new ≡ (old + f (slice_index_or parts i d)) % m
    → new ≡ (initial + sum_by f (take (i + 1) parts)) % m
more_added f parts i d m initial old new lt e g =
    let x = f (slice_index_or parts i d) in
    let s = sum_by f (take i parts) in
    g ∙ ap (λ n. (n + x) % m) e
    ∙ ap (λ n. n % m) (let l : (initial + s) % m + x ≡ x + (initial + s) % m = omega arith in l)
    ∙ add-mod-mod x (initial + s) m
    ∙ ap (λ n. n % m)
    (let more = sum_by_more f parts i d lt in let l : x + (initial + s) ≡ initial + sum_by f (take (i + 1) parts) = omega arith in l)

pub loop-part-preserved : goal.loop-part-preserved
loop-part-preserved c = record {
  size = let kept = c.add_residues.auto.sums in let before = c.loop-part.invariant.size in cc;
  added = λ q h.
      let m = modulus_at c.args.problem.now.moduli q in
      let part = c.part-item.result in
      let old = slice_index c.loop-part.residues q in
      more_added (sum_at c.args.index q) c.args.parts.now c.loop-part.part-index part m (slice_index c.args.residues.now q)
      old _ c.loop-part-test.true (c.loop-part.invariant.added q h)
      (c.add_residues.ensures.added q h ∙ ap (λ xs. (old + slice_index xs q) % m) c.sums.ensures
      ∙ ap (λ (p : CrossPart). (old + sum_at c.args.index q p) % m) c.part-item.is);
  reduced = c.add_residues.ensures.reduced;
  rest = λ q h. c.add_residues.ensures.rest q h ∙ c.loop-part.invariant.rest q h;
}

-- a sum modulo m that is taken modulo m first
reduced_first : (f : CrossPart → ℕ) (parts : List CrossPart) (n m initial new : ℕ) → n ≡ length parts
    → new ≡ (initial + sum_by f (take n parts)) % m → new ≡ (initial + sum_by f parts % m) % m
reduced_first f parts n m initial new e is =
    is ∙ ap (λ ps. (initial + sum_by f ps) % m) (ap (λ k. take k parts) e ∙ take_all (length parts) parts (omega arith))
    ∙ sym (add-mod-mod initial (sum_by f parts) m)

pub returns-clause-grew : goal.returns-clause-grew
returns-clause-grew c = λ first end total place within. record {
  value = sum_by (sum_at c.args.index place) c.args.parts.now % modulus_at c.args.problem.now.moduli place;
  is_residue = total.residues place within;
  sum = reduced_first (sum_at c.args.index place) c.args.parts.now c.loop-part.part-index
      (modulus_at c.args.problem.now.moduli place) (slice_index c.args.residues.now place) _
      (let past = c.loop-part-test.false in let end = c.loop-part.auto.part-index-end in omega arith)
      (c.loop-part.invariant.added place within);
}
