-- A base of 0 makes the product 0, which is not above the limit; without one the product is positive, and the bases
-- copied into zeros are padded.
use Rattle.std.proofs.Common.{◌≡◌, ◌≤◌, ◌++◌, ℕ, List, length, drop, replicate, arith, sym, ap, ◌∙◌, refl}
use Rattle.std.proofs.lemmas.List.{drop-replicate}
use Rattle.mixed_radix.proofs.Suffixes.{product-first_zero, product_positive}
use Rattle.lists.specs.Digits.{product_of}
use Rattle.lists.specs.Padding.{padded}
use Rattle.lists.proofs.Padding.{padded_array, take-padded_array}
use Rattle.mixed_radix.proofs.Radix.new.Goals as goal

padded_zeros : (n : ℕ) (xs ys zeros : List ℕ) → length xs ≤ n → ys ≡ xs → zeros ≡ replicate n 0 → ys ++ drop (length xs) zeros ≡ padded 0 n xs
padded_zeros n xs ys zeros h e z = ap (λ l. l ++ drop (length xs) zeros) e ∙ ap (λ l. xs ++ drop (length xs) l) z ∙ ap (λ l. xs ++ l) (drop-replicate (length xs) n 0)

pub returns-in-Some-clause-too_large : goal.returns-in-Some-clause-too_large
returns-in-Some-clause-too_large c =
    (λ e. cc, λ h. absurd (let z = product-first_zero c.args.bases.now c.in-Some.place c.in-Some.ensures in let more = h.1 in omega arith))

pub product-requires : goal.product-requires
product-requires c = product_positive c.args.bases.now c.in_default.ensures

pub invariant_of-result : goal.invariant_of-result
invariant_of-result c =
    let bases = c.args.bases.now in
    let copied = padded_zeros 40 bases _ _ c.if-bases-gt-MOST_BASES.false c.copy_from_slice.ensures.after refl in
    let some = c.in-Some-product.ensures.some in
    let positive = product_positive bases c.in_default.ensures in (
      padded_array 0 40 bases _ c.if-bases-gt-MOST_BASES.false copied,
      some ∙ ap product_of (sym (take-padded_array 0 40 bases _ copied)),
      rw some positive,
      c.in-Some-product.ensures.limited,
    )

pub returns-clause-accepted : goal.returns-clause-accepted
returns-clause-accepted c = (c.if-bases-gt-MOST_BASES.false, product_positive c.args.bases.now c.in_default.ensures, (let some : c.in-Some-product.size ≡ _ = c.in-Some-product.ensures.some in let most = c.in-Some-product.ensures.limited in omega arith))
