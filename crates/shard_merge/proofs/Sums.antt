-- Adding up the residues of shards, one shard after the other.
use Rattle.std.proofs.Common.{◌≡◌, ℕ, ◌+◌, ◌*◌, ◌%◌, ◌≤◌, ◌<◌, List, [], ◌∷◌, ◌++◌, length, take, drop, replicate, slice_index, slice_index_or, refl, sym, ap, subst, ◌∙◌, arith, mod-lt}
use Rattle.std.specs.Prelude.{sum_by}
use Rattle.std.proofs.lemmas.List.{length-replicate, take_all, take_at}
use Rattle.std.proofs.lemmas.List.Sums.{sum_by_more}
use Rattle.std.proofs.Math.Nat.{add-mod-mod, mod-eq_of_lt}
use Rattle.localisation.specs.Agreement.{modulus_at}
use Rattle.lists.proofs.Padding.{zeros}
use Rattle.problem.specs.Rules.{ProblemView, KeepsRules}
use Rattle.problem.specs.Sums.{places_of}
use Rattle.problem.proofs.ProblemLaws.{modulus_above}
use Rattle.checkpoint.specs.States.{AreResidues}
use Rattle.sum_job.specs.Parts.{AreReduced}
use Rattle.shard_merge.specs.Merges.{residue_at}
use Rattle.shard_merge.specs.Shards.{ShardView}

-- the residues are the sums of those of the shards
pub record SumsOf (p : ProblemView) (shards : List ShardView) (xs : List ℕ) : Type 0 where
  pub size : length xs ≡ places_of p
  pub reduced : AreReduced p xs
  pub each : (q : ℕ) → q < places_of p → slice_index xs q ≡ sum_by (residue_at q) shards % modulus_at p.moduli q

pub sums_none : (p : ProblemView) (n : ℕ) (xs : List ℕ) → KeepsRules p → n ≡ places_of p → xs ≡ replicate n 0 → SumsOf p [] xs
sums_none p n xs rules e is = record {
  size = ap length is ∙ length-replicate n 0 ∙ e;
  reduced = λ q lt.
      let above = modulus_above p rules q in let z = zero_at q in omega (arith, z, above);
  each = λ q lt.
      let above = modulus_above p rules q in
      let small : 0 < modulus_at p.moduli q = omega (arith, above) in
      zero_at q ∙ sym (mod-eq_of_lt small);
}
  where
    zero_at : (q : ℕ) → slice_index xs q ≡ 0
    zero_at q = ap (λ (ys : List ℕ). slice_index ys q) is ∙ zeros n q

-- what is written back to a vector of as many items
pub written_back : (n : ℕ) (new old : List ℕ) → length new ≡ n → take n (new ++ drop (length new) old) ≡ new
written_back n new old h = take_at new (drop (length new) old) n h

-- what the residues of one more shard add
pub record Added (p : ProblemView) (old more new : List ℕ) : Type 0 where
  pub size : length new ≡ length old
  pub reduced : AreReduced p new
  pub each : (q : ℕ) → q < places_of p
      → slice_index new q ≡ (slice_index old q + slice_index more q) % modulus_at p.moduli q

one_more : (shards : List ShardView) (i : ℕ) (s : ShardView) (q m old new : ℕ) → i < length shards
    → slice_index_or shards i s ≡ s
    → old ≡ sum_by (residue_at q) (take i shards) % m → new ≡ (old + slice_index s.residues q) % m
    → new ≡ sum_by (residue_at q) (take (i + 1) shards) % m
one_more shards i s q m old new lt is e f =
    let x = slice_index s.residues q in
    let total = sum_by (residue_at q) (take i shards) in
    let here : residue_at q (slice_index_or shards i s) ≡ x = ap (residue_at q) is in
    f ∙ ap (λ (n : ℕ). (n + x) % m) e
    ∙ ap (λ (n : ℕ). n % m) (let l : total % m + x ≡ x + total % m = omega arith in l)
    ∙ add-mod-mod x total m
    ∙ ap (λ (n : ℕ). n % m)
    (let more = sum_by_more (residue_at q) shards i s lt in let l : x + total ≡ sum_by (residue_at q) (take (i + 1) shards) = omega (arith, more, here) in l)

pub sums_more : (p : ProblemView) (shards : List ShardView) (i : ℕ) (s : ShardView) (old new : List ℕ)
    → i < length shards → slice_index_or shards i s ≡ s
    → SumsOf p (take i shards) old → Added p old s.residues new → SumsOf p (take (i + 1) shards) new
sums_more p shards i s old new lt is so_far added = record {
  size = added.size ∙ so_far.size;
  reduced = added.reduced;
  each = λ q h.
      one_more shards i s q (modulus_at p.moduli q) (slice_index old q) (slice_index new q) lt is (so_far.each q h)
      (added.each q h);
}

pub sums_all : (p : ProblemView) (shards : List ShardView) (i : ℕ) (xs : List ℕ) → length shards ≤ i
    → SumsOf p (take i shards) xs → SumsOf p shards xs
sums_all p shards i xs le h = subst (λ (ss : List ShardView). SumsOf p ss xs) (take_all i shards le) h

pub sums_residues : (p : ProblemView) (shards : List ShardView) (xs : List ℕ) → SumsOf p shards xs → AreResidues p xs
sums_residues p shards xs h = record {
  one_each = h.size;
  below = λ place lt. let size = h.size in h.reduced place (omega (arith, size, lt));
}
