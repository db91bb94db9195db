-- What a shard writes is read as the shard, and is short enough.
use Rattle.std.proofs.Common.{◌≡◌, ℕ, ◌+◌, ◌*◌, ◌^◌, ◌≤◌, ◌<◌, List, ◌++◌, length, get_or, Ok, refl, sym, ap, subst, ◌∙◌, length-append, arith}
use Rattle.std.specs.Prelude.{codes, decimal}
use Rattle.std.specs.List.{concat, flat_map}
use Rattle.std.proofs.lemmas.Fmt.{length-decimal-le}
use Rattle.sha2.specs.Sha256.{sha256}
use Rattle.localisation.specs.Agreement.{modulus_at}
use Rattle.checkpoint.specs.Readers.{residues_fit}
use Rattle.checkpoint.specs.Refusals.{IsShort}
use Rattle.checkpoint.specs.States.{StateView, IsState}
use Rattle.checkpoint.specs.Texts.{number_line, source_text, residues_line, seal, rows_of}
use Rattle.checkpoint.proofs.Fits.{counts_fit_from, residues_fit_from}
use Rattle.checkpoint.proofs.Seals.{length-seal}
use Rattle.checkpoint.proofs.TextLaws.{sha256_digest}
use Rattle.checkpoint.proofs.WrittenStates.{length_rows_of, concat_rows_of, each_row_of, rows_are, residues_small, source_short, line_short, rows_short, source_line_short}
use Rattle.shard_merge.specs.Readers.{problem_or_refusal, shard_of}
use Rattle.shard_merge.specs.Refusals.{AreContents, Writes}
use Rattle.shard_merge.specs.Shards.{ShardView, IsShard}
use Rattle.shard_merge.specs.Texts.{range_line, rest_of, body_of, contents_in, text_in}
use Rattle.shard_merge.proofs.ShardLaws.{at_shard}

-- the state with the sums of a shard, and the end of its range for the number of the next tree
abbrev state_like : ShardView → StateView
state_like s = record { source = s.source; problem = s.problem; next = s.end; residues = s.residues }

range_line_short : (first end : ℕ) → first < 2 ^ 64 → end < 2 ^ 64 → length (range_line first end) ≤ 48
range_line_short first end small fits =
    let a = length-decimal-le 20 first (omega arith) (omega arith) small in
    let b = length-decimal-le 20 end (omega arith) (omega arith) fits in
    omega (
      arith,
      a,
      b,
      length-append (codes "range " ++ decimal first ++ codes " " ++ decimal end) (codes "\n"),
      length-append (codes "range " ++ decimal first ++ codes " ") (decimal end),
      length-append (codes "range " ++ decimal first) (codes " "),
      length-append (codes "range ") (decimal first),
    )

sum_of_five : (a s n f k : List ℕ)
    → length ((a ++ (s ++ n ++ f)) ++ k) ≡ length a + length s + length n + length f + length k
sum_of_five a s n f k =
    omega (arith, length-append (a ++ (s ++ n ++ f)) k, length-append a (s ++ n ++ f), length-append (s ++ n) f, length-append s n)

module _ (s : ShardView) (is : IsShard s) where
  abbrev m : ℕ
  m = length s.problem.moduli

  abbrev n : ℕ
  n = length s.problem.integrals

  is_state : IsState (state_like s)
  is_state = record { problem = is.problem; rules = is.rules; next = is.most; residues = is.residues }

  pub shard_again : shard_of (contents_in s) ≡ Ok s
  shard_again =
      let joined = concat_rows_of m n s.residues is.residues.one_each in
      let fit : residues_fit s.problem.moduli 0 (concat (rows_of m n s.residues)) ≡ Ok tt = ap (residues_fit s.problem.moduli 0) joined
      ∙ residues_fit_from s.problem.moduli 0 s.residues
      (λ j lt. subst (λ (k : ℕ). get_or s.residues j 0 < modulus_at s.problem.moduli k) (omega arith) (is.residues.below j lt)) in
      at_shard (contents_in s) s.problem (ap problem_or_refusal is.problem) is.some is.most
      (length_rows_of m n s.residues)
      (counts_fit_from m (rows_of m n s.residues) (each_row_of m n s.residues is.residues.one_each)) fit
      ∙ ap
      (λ (xs : List ℕ). Ok (record { source = s.source; problem = s.problem; first = s.first; end = s.end; residues = xs }))
      joined

  contents_are : AreContents (contents_in s)
  contents_are = record {
    source = omega (arith, source_short s.source s.problem is.problem);
    first = omega (arith, is.some, is.most, is.rules.few_trees);
    end = omega (arith, is.most, is.rules.few_trees);
    rows = rows_are m n s.residues is.rules.moduli.least is.residues.one_each (residues_small (state_like s) is_state);
    some = omega (arith, length_rows_of m n s.residues, is.rules.some_integrals);
  }

  text_short : IsShort (text_in s)
  text_short =
      let c = contents_in s in
      let a = number_line (codes "locus-shard ") 1 in
      let t = source_text s.source in
      let x = range_line s.first s.end in
      let f = flat_map residues_line (rows_of m n s.residues) in
      let k = seal (sha256 (body_of c)) in
      let rows =
      rows_short m (rows_of m n s.residues) is.rules.moduli.most contents_are.rows
      (each_row_of m n s.residues is.residues.one_each) in
      omega (
        arith,
        sum_of_five a t x f k,
        line_short (codes "locus-shard ") 1 (omega arith),
        source_line_short s.source (source_short s.source s.problem is.problem),
        range_line_short s.first s.end contents_are.first contents_are.end,
        rows,
        length_rows_of m n s.residues,
        is.rules.few_integrals,
        length-seal (sha256 (body_of c)) (sha256_digest (body_of c)),
      )

  pub shard_written : (text : List ℕ) → text ≡ text_in s → Writes text (contents_in s)
  shard_written text h = record { fits = subst IsShort (sym h) text_short; contents = contents_are; whole = h }
