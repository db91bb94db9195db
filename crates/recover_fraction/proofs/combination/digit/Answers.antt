use Rattle.std.proofs.Common.{rules, ◌≡◌, ℕ, ◌*◌, ◌%◌, ◌<◌, refl, ◌∙◌, Option, Some, None, IsSome, IsNone, IfSome, ap, subst}
use Rattle.arithmetic.specs.Numbers.{gcd}
use Rattle.recover_fraction.proofs.CoprimeProducts.{gcd-mod_left}
use Rattle.recover_fraction.proofs.Garner.{digit_is}
use Rattle.recover_fraction.proofs.combination.digit.Goals as goal

some_from : (o : Option ℕ) → (IsNone o → ⊥) → IsSome o
some_from None h = absurd (h refl)
some_from (Some x) h = search rules

pub unwrap-inverse-requires : goal.unwrap-inverse-requires
unwrap-inverse-requires c =
    some_from c.inverse.result
    (λ none. c.inverse.ensures.none.0 none
    (ap (λ n. gcd (c.args.product % n) c.args.modulus.now) c.get-m.ensures.value ∙ gcd-mod_left c.args.product c.args.modulus.now ∙ c.requires.coprime))

pub returns-clause-value : goal.returns-clause-value
returns-clause-value c =
    let inverse = subst (λ o. IfSome o (λ y. (y < c.args.modulus.now) × ((c.args.product % c.get-m.result * y) % c.args.modulus.now ≡ 1))) c.unwrap-inverse.ensures c.inverse.ensures.inverse in
    digit_is c.args.modulus.now c.get-m.result c.args.number c.args.product c.args.residue c.sub-missing.result c.unwrap-inverse.result c.mul.result
    c.get-m.ensures.value c.requires.residue_below c.sub-missing.ensures.value inverse.1 c.mul.ensures.value
