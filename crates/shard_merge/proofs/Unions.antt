-- The union of shards that can be merged is a shard, and a state if it begins at 0.
use Rattle.std.proofs.Common.{◌≡◌, ℕ, suc, ◌≤◌, ◌<◌, List, [], ◌∷◌, length, slice_index, slice_index_or, Result, Ok, refl, sym, ap, subst, ◌∙◌, arith, All}
use Rattle.std.specs.Prelude.{sum_by, ◌%◌}
use Rattle.std.proofs.lemmas.List.{get_or-map}
use Rattle.localisation.specs.Agreement.{modulus_at}
use Rattle.problem.specs.Rules.{ProblemView, KeepsRules}
use Rattle.problem.specs.Sums.{count_of, places_of}
use Rattle.problem_toml.specs.Reading.{reading}
use Rattle.problem_toml.specs.declared.error.ProblemError.{ProblemError}
use Rattle.checkpoint.specs.States.{AreResidues, IsState}
use Rattle.shard_merge.specs.Merges.{sources_of, ranges_of, source_at, range_at, residue_at, AreOfOneSource, AreMergeable, IsUnion, below_next}
use Rattle.shard_merge.specs.Shards.{ShardView, IsShard}

same_ok : (p q : ProblemView) → ◌≡◌ {A = Result ProblemView ProblemError} (Ok p) (Ok q) → p ≡ q
same_ok p q h = cc

sources_long : (shards : List ShardView) → length (sources_of shards) ≡ length shards
sources_long [] = refl
sources_long (s ∷ shards) = ap suc (sources_long shards)

pub ranges_long : (shards : List ShardView) → length (ranges_of shards) ≡ length shards
ranges_long [] = refl
ranges_long (s ∷ shards) = ap suc (ranges_long shards)

pub range_is : (shards : List ShardView) (i : ℕ) (d : ShardView) → i < length shards
    → range_at (ranges_of shards) i ≡ ((slice_index_or shards i d).first, (slice_index_or shards i d).end)
range_is shards i d lt = get_or-map (λ (s : ShardView). (s.first, s.end)) shards i d (0, 0) lt

source_is : (shards : List ShardView) (i : ℕ) (d : ShardView) → i < length shards
    → source_at (sources_of shards) i ≡ (slice_index_or shards i d).source
source_is shards i d lt = get_or-map (λ (s : ShardView). s.source) shards i d [] lt

module _ (shards : List ShardView) (p : ProblemView) (source : List ℕ) (read : reading source ≡ Ok p)
    (is : source ≡ source_at (sources_of shards) 0) (are : All IsShard shards)
    (one : AreOfOneSource (sources_of shards)) where
  -- the problem of each shard is that of the common source
  pub problem_is : (i : ℕ) (d : ShardView) → i < length shards → (slice_index_or shards i d).problem ≡ p
  problem_is i d lt =
      let s = slice_index_or shards i d in
      let many = sources_long shards in
      let same : s.source ≡ source = sym (source_is shards i d lt) ∙ one i (omega (arith, many, lt)) ∙ sym is in
      same_ok s.problem p (sym (are i d lt).problem ∙ ap reading same ∙ read)

  pub residues_fit : All (λ (s : ShardView). AreResidues p s.residues) shards
  residues_fit i d lt =
      subst (λ (q : ProblemView). AreResidues q (slice_index_or shards i d).residues) (problem_is i d lt)
      (are i d lt).residues

  module _ (lo hi : ℕ) (merge : AreMergeable shards lo hi) (d : ShardView) where
    end_within : hi ≤ count_of p
    end_within =
        let i = merge.end.place in
        let many = ranges_long shards in
        let within = merge.end.within in
        let lt : i < length shards = omega (arith, many, within) in
        let end : (slice_index_or shards i d).end ≡ hi =
        ap (λ (r : ℕ × ℕ). r.1) (sym (range_is shards i d lt)) ∙ merge.end.is in
        let most : (slice_index_or shards i d).end ≤ count_of p =
        subst (λ (q : ProblemView). (slice_index_or shards i d).end ≤ count_of q) (problem_is i d lt) (are i d lt).most in
        omega (arith, end, most)

    some_number : lo < hi
    some_number =
        let i = merge.end.place in
        let many = ranges_long shards in
        let within = merge.end.within in
        let lt : i < length shards = omega (arith, many, within) in
        let range = range_is shards i d lt in
        let first = ap (λ (r : ℕ × ℕ). r.0) range in
        let end = ap (λ (r : ℕ × ℕ). r.1) range in
        let some = (are i d lt).some in
        let least = merge.first.least i within in
        let greatest = merge.end.is in
        omega (arith, first, end, some, least, greatest)

    module _ (rules : KeepsRules p) (residues : List ℕ) (fit : AreResidues p residues) where
      pub union_shard : IsShard (record { source = source; problem = p; first = lo; end = hi; residues = residues })
      union_shard = record { problem = read; rules = rules; some = some_number; most = end_within; residues = fit }

      pub union_state : IsState (record { source = source; problem = p; next = hi; residues = residues })
      union_state = record { problem = read; rules = rules; next = end_within; residues = fit }

      pub is_union : ((place : ℕ) → place < places_of p → slice_index residues place ≡ sum_by (residue_at place) shards % modulus_at p.moduli place)
          → IsUnion shards (record { source = source; problem = p; first = lo; end = hi; residues = residues })
      is_union sums = record { mergeable = merge; source = is; sums = record { one_each = fit.one_each; each = sums } }
