use Rattle.std.proofs.Common.{◌≡◌, ◌<◌, sym, ap, subst, ◌∙◌, arith}
use Rattle.problem.specs.Problems as problems
use Rattle.shard_merge.specs.Merges.{source_at, sources_of, IsUnion, below_next}
use Rattle.shard_merge.proofs.Tiled.{first_source}
use Rattle.shard_merge.proofs.Unions.{residues_fit, union_shard, union_state, is_union}
use Rattle.shard_merge.proofs.merging.union.Goals as goal

pub summed-requires : goal.summed-requires
summed-requires c =
    let first =
    c.source-source.ensures.value ∙ first_source c.args.shards.now c.index-shards-0.result c.index-shards-0.result c.requires.some (sym c.index-shards-0.is) in
    residues_fit c.args.shards.now (problems.view c.in_ok-problem.problem) c.source-source.result.now c.in_ok-problem.ensures
    first c.requires.shards c.requires.mergeable.one_source

pub new-state-requires : goal.new-state-requires
new-state-requires c =
    let first =
    c.source-source.ensures.value ∙ first_source c.args.shards.now c.index-shards-0.result c.index-shards-0.result c.requires.some (sym c.index-shards-0.is) in
    rw (c.of-source.ensures, c.in_ok-from_slice.ensures.items, c.of-residues.ensures) (union_state c.args.shards.now (problems.view c.in_ok-problem.problem) c.source-source.result.now c.in_ok-problem.ensures
    first c.requires.shards c.requires.mergeable.one_source c.args.first c.args.end c.requires.mergeable c.index-shards-0.result
    c.in_ok-problem.problem.rules c.in_ok-summed.field-0.items c.in_ok-summed.ensures.residues)

pub new-shard-requires : goal.new-shard-requires
new-shard-requires c =
    let first =
    c.source-source.ensures.value ∙ first_source c.args.shards.now c.index-shards-0.result c.index-shards-0.result c.requires.some (sym c.index-shards-0.is) in
    rw (c.of-source.ensures, c.in_ok-from_slice.ensures.items, c.of-residues.ensures) (union_shard c.args.shards.now (problems.view c.in_ok-problem.problem) c.source-source.result.now c.in_ok-problem.ensures
    first c.requires.shards c.requires.mergeable.one_source c.args.first c.args.end c.requires.mergeable c.index-shards-0.result
    c.in_ok-problem.problem.rules c.in_ok-summed.field-0.items c.in_ok-summed.ensures.residues)

pub returns-then-first-eq0 : goal.returns-then-first-eq0
returns-then-first-eq0 c =
    let first =
    c.source-source.ensures.value ∙ first_source c.args.shards.now c.index-shards-0.result c.index-shards-0.result c.requires.some (sym c.index-shards-0.is) in
    let zero : c.args.first ≡ 0 = c.if-first-eq0.true in
    let union = is_union c.args.shards.now (problems.view c.in_ok-problem.problem) c.source-source.result.now c.in_ok-problem.ensures
    first c.requires.shards c.requires.mergeable.one_source c.args.first c.args.end c.requires.mergeable c.index-shards-0.result
    c.in_ok-problem.problem.rules c.in_ok-summed.field-0.items c.in_ok-summed.ensures.residues c.in_ok-summed.ensures.sums in (
      c.new-state.ensures.is_state,
      rw (c.new-state.ensures.value, c.of-source.ensures, c.in_ok-from_slice.ensures.items, c.of-residues.ensures) (rw zero at union),
    )

pub returns-else-first-eq0 : goal.returns-else-first-eq0
returns-else-first-eq0 c =
    let first =
    c.source-source.ensures.value ∙ first_source c.args.shards.now c.index-shards-0.result c.index-shards-0.result c.requires.some (sym c.index-shards-0.is) in
    let union = is_union c.args.shards.now (problems.view c.in_ok-problem.problem) c.source-source.result.now c.in_ok-problem.ensures
    first c.requires.shards c.requires.mergeable.one_source c.args.first c.args.end c.requires.mergeable c.index-shards-0.result
    c.in_ok-problem.problem.rules c.in_ok-summed.field-0.items c.in_ok-summed.ensures.residues c.in_ok-summed.ensures.sums in
    let some : 0 < c.args.first = omega arith in (
      c.new-shard.ensures.is_shard,
      rw (c.new-shard.ensures.value, c.of-source.ensures, c.in_ok-from_slice.ensures.items, c.of-residues.ensures) union,
      rw c.new-shard.ensures.value some,
    )
