use Rattle.std.proofs.Common.{◌≡◌, sym, ◌∙◌, arith}
use Rattle.shard_merge.specs.Merges.{ranges_of, sources_of, source_at}
use Rattle.shard_merge.proofs.Tiled.{first_source, other_is_first, none_is_other, first_is, end_is, gap_is_first, mergeable}
use Rattle.shard_merge.proofs.Walked.{first_pair, no_pair}
use Rattle.shard_merge.proofs.tiling.tiled.Goals as goal

pub returns-in-Some-clause-refusal : goal.returns-in-Some-clause-refusal
returns-in-Some-clause-refusal c =
    let source =
    c.source.ensures.value ∙ first_source c.args.shards.now _ c.index-shards-0.result c.requires.least (sym c.index-shards-0.is) in
    other_is_first c.args.shards.now c.source.result.now c.in-Some.place source (sym c.in-Some.ensures.value)

pub returns-in-Some-first_pair-clause-refusal : goal.returns-in-Some-first_pair-clause-refusal
returns-in-Some-first_pair-clause-refusal c =
    let source =
    c.source.ensures.value ∙ first_source c.args.shards.now _ c.index-shards-0.result c.requires.least (sym c.index-shards-0.is) in (
      none_is_other c.args.shards.now c.source.result.now source (sym c.in_default.ensures.value),
      first_pair (ranges_of c.args.shards.now) c.in-Some-first_pair.first c.in-Some-first_pair.second
          (sym c.in-Some-first_pair.ensures),
    )

pub returns-then-number-end-clause-refusal : goal.returns-then-number-end-clause-refusal
returns-then-number-end-clause-refusal c =
    let source =
    c.source.ensures.value ∙ first_source c.args.shards.now _ c.index-shards-0.result c.requires.least (sym c.index-shards-0.is) in (
      none_is_other c.args.shards.now c.source.result.now source (sym c.in_default.ensures.value),
      no_pair 0 (ranges_of c.args.shards.now) (sym c.in_default-first_pair.ensures),
      gap_is_first (ranges_of c.args.shards.now) c.bounds-first.result.0 c.bounds-first.result.1 c.first_missing-number.result
          (first_is c.args.shards.now _ c.requires.least c.bounds-first.ensures.first)
          (end_is c.args.shards.now _ c.requires.least c.bounds-first.ensures.end)
          c.first_missing-number.ensures.reached c.first_missing-number.ensures.missing c.if-number-end.true,
    )

pub returns-clause-tiles : goal.returns-clause-tiles
returns-clause-tiles c =
    let source =
    c.source.ensures.value ∙ first_source c.args.shards.now _ c.index-shards-0.result c.requires.least (sym c.index-shards-0.is) in
    mergeable c.args.shards.now c.bounds-first.result.0 c.bounds-first.result.1 c.first_missing-number.result
    (none_is_other c.args.shards.now c.source.result.now source (sym c.in_default.ensures.value))
    (no_pair 0 (ranges_of c.args.shards.now) (sym c.in_default-first_pair.ensures))
    (first_is c.args.shards.now _ c.requires.least c.bounds-first.ensures.first)
    (end_is c.args.shards.now _ c.requires.least c.bounds-first.ensures.end)
    c.first_missing-number.ensures.reached (omega arith)
