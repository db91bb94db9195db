use Rattle.std.proofs.Common.{◌≡◌, ℕ, ◌+◌, ◌%◌, List, length, slice_index, sym, ap, ◌∙◌, arith}
use Rattle.localisation.specs.Agreement.{modulus_at}
use Rattle.problem.specs.Problems as problems
use Rattle.shard_merge.proofs.Sums.{Added, sums_more, written_back}
use Rattle.shard_merge.proofs.merging.summed.Goals as goal

pub loop-shard-preserved : goal.loop-shard-preserved
loop-shard-preserved c =
    let p = problems.view c.args.problem.now in
    let value = c.deref_mut.ensures.value in
    let kept : length c.add_residues.new.sums ≡ length c.deref_mut.result.now = c.add_residues.auto.sums in
    let size : length c.add_residues.new.sums ≡ length c.loop-shard.sums.items = kept ∙ ap length value in
    let many : length c.add_residues.new.sums ≡ c.loop-shard.sums.len = kept ∙ c.deref_mut.ensures.len in
    let added : Added p c.loop-shard.sums.items c.shard-item.result.residues c.add_residues.new.sums = record {
      size = size;
      reduced = c.add_residues.ensures.reduced;
      each = λ q h.
          c.add_residues.ensures.added q h
          ∙ ap (λ (xs : List ℕ). (slice_index xs q + slice_index c.residues.result.now q) % modulus_at p.moduli q) value
          ∙ ap (λ (ys : List ℕ). (slice_index c.loop-shard.sums.items q + slice_index ys q) % modulus_at p.moduli q) c.residues.ensures.value;
    } in
    rw (written_back c.loop-shard.sums.len c.add_residues.new.sums c.loop-shard.sums.items many) (sums_more p c.args.shards.now c.loop-shard.shard-index c.shard-item.result c.loop-shard.sums.items
    c.add_residues.new.sums (omega arith) (sym c.shard-item.is) c.loop-shard.invariant added)
