use Rattle.std.proofs.Common.{◌*◌, ◌+◌, ap, ◌∙◌, refl, drop, slice_index_or}
use Rattle.lists.specs.Digits.{product_of}
use Rattle.mixed_radix.proofs.Suffixes.{product-drop, product_above}
use Rattle.mixed_radix.proofs.product.Goals as goal

pub returns-then-next_size-clause-none : goal.returns-then-next_size-clause-none
returns-then-next_size-clause-none c =
    let i = c.loop-base.base-index in
    let bases = c.args.bases.now in
    let whole = c.loop-base.invariant.whole ∙ ap (λ q. c.loop-base.size * q) (product-drop bases i c.loop-base-test.true) in
    (λ _. product_above 1099511627776 c.loop-base.size (slice_index_or bases i 0) (product_of (drop (i + 1) bases)) (product_of bases) whole c.requires c.if-next_size.true, λ _. refl)
