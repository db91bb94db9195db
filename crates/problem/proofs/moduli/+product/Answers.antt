use Rattle.std.proofs.Common.{◌∙◌}
use Rattle.problem.proofs.ModulusLists.{product_by_first, some_made, none_made}
use Rattle.problem.proofs.moduli.+product.Goals as goal

pub returns-in_ok-product-in-len1-up-clause-value : goal.returns-in_ok-product-in-len1-up-clause-value
returns-in_ok-product-in-len1-up-clause-value t c =
    some_made c.checked_mul.result _ _ c.checked_mul.ensures
    (product_by_first c.in_ok-product-in-len1-up.product c.get-first.result c.args.moduli.now _ c.in-len1-up.len_at_least (c.get-first.ensures.value ∙ c.first-item.is) c.in_ok-product-in-len1-up.ensures.value)

pub returns-in_ok-product-in-len1-up-clause-none : goal.returns-in_ok-product-in-len1-up-clause-none
returns-in_ok-product-in-len1-up-clause-none t c =
    none_made c.checked_mul.result _ _ c.checked_mul.ensures
    (product_by_first c.in_ok-product-in-len1-up.product c.get-first.result c.args.moduli.now _ c.in-len1-up.len_at_least (c.get-first.ensures.value ∙ c.first-item.is) c.in_ok-product-in-len1-up.ensures.value)
