-- After the moduli so far, the number is the only one below their product with their residues, and the product is
-- coprime to each modulus that is left (`IsSoFar`).
use Rattle.std.proofs.Common.{◌≡◌, ◌+◌, ◌*◌, ◌%◌, ◌<◌, ◌^◌, sym, subst, ◌∙◌, arith, slice_index}
use Rattle.std.proofs.lemmas.Option.{get_or_from_slice_get}
use Rattle.arithmetic.specs.Numbers.{gcd}
use Rattle.recover_fraction.proofs.Garner.{start, below_next, within_limit, next, whole_product, ended, combined, agreement}
use Rattle.recover_fraction.proofs.combination.garner.Goals as goal

pub loop-place-init : goal.loop-place-init
loop-place-init c = start c.args.moduli.now c.args.residues.now

pub digit-requires-clause-residue_below : goal.digit-requires-clause-residue_below
digit-requires-clause-residue_below c =
    let at = get_or_from_slice_get c.args.moduli.now c.loop-place.place c.get-modulus.result.now 0 c.get-modulus.ensures in
    subst (λ m. slice_index c.args.residues.now c.loop-place.place < m) at (c.requires.residues.below c.loop-place.place (omega arith))

pub digit-requires-clause-coprime : goal.digit-requires-clause-coprime
digit-requires-clause-coprime c =
    let at = get_or_from_slice_get c.args.moduli.now c.loop-place.place c.get-modulus.result.now 0 c.get-modulus.ensures in
    subst (λ m. gcd c.loop-place.product m ≡ 1) at (c.loop-place.invariant.coprime c.loop-place.place (omega arith) (omega arith))

pub overflow_mul-number : goal.overflow_mul-number
overflow_mul-number c =
    let at = get_or_from_slice_get c.args.moduli.now c.loop-place.place c.get-modulus.result.now 0 c.get-modulus.ensures in
    let most : c.loop-place.product * c.get-modulus.result.now < 2 ^ 126 = within_limit _ _ _ _ _ _ c.loop-place.invariant c.requires.residues (omega arith) at c.requires.product in
    let next_below = below_next _ _ _ _ c.loop-place.invariant.below c.digit.ensures.below in
    omega (arith, most, next_below)

pub overflow_add-number : goal.overflow_add-number
overflow_add-number c =
    let at = get_or_from_slice_get c.args.moduli.now c.loop-place.place c.get-modulus.result.now 0 c.get-modulus.ensures in
    let most : c.loop-place.product * c.get-modulus.result.now < 2 ^ 126 = within_limit _ _ _ _ _ _ c.loop-place.invariant c.requires.residues (omega arith) at c.requires.product in
    let next_below = below_next _ _ _ _ c.loop-place.invariant.below c.digit.ensures.below in
    omega (arith, most, next_below)

pub overflow_mul-product : goal.overflow_mul-product
overflow_mul-product c =
    let at = get_or_from_slice_get c.args.moduli.now c.loop-place.place c.get-modulus.result.now 0 c.get-modulus.ensures in
    let most : c.loop-place.product * c.get.result < 2 ^ 126 =
    within_limit _ _ _ _ _ _ c.loop-place.invariant c.requires.residues (omega arith) (at ∙ sym c.get.ensures.value) c.requires.product in
    omega (arith, most)

pub loop-place-preserved : goal.loop-place-preserved
loop-place-preserved c =
    let at = get_or_from_slice_get c.args.moduli.now c.loop-place.place c.get-modulus.result.now 0 c.get-modulus.ensures in
    next _ _ c.loop-place.place c.loop-place.number c.loop-place.product c.get.result c.digit.result c.loop-place.invariant c.requires.residues c.requires.coprime (omega arith)
    (c.get.ensures.value ∙ sym at) (subst (λ m. c.digit.result < m) (sym c.get.ensures.value) c.digit.ensures.below)
    (subst (λ m. (c.loop-place.number + c.loop-place.product * c.digit.result) % m ≡ slice_index c.args.residues.now c.loop-place.place) (sym c.get.ensures.value) c.digit.ensures.value)

pub returns-clause-product : goal.returns-clause-product
returns-clause-product c = whole_product _ _ _ _ _ (omega arith) c.loop-place.invariant

pub returns-clause-value : goal.returns-clause-value
returns-clause-value c =
    combined _ _ _ (ended c.args.moduli.now c.args.residues.now c.loop-place.place c.loop-place.number c.loop-place.product (omega arith) c.loop-place.invariant)

pub returns-clause-agreement : goal.returns-clause-agreement
returns-clause-agreement c =
    agreement _ _ _ (ended c.args.moduli.now c.args.residues.now c.loop-place.place c.loop-place.number c.loop-place.product (omega arith) c.loop-place.invariant) c.requires.residues
