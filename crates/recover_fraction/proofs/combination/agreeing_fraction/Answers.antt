use Rattle.std.proofs.Common.{◌≡◌, ℕ, ℤ, Option, Some, None, IfSome, List, sym, subst}
use Rattle.arithmetic.specs.Agreement.{Agrees, AgreesModulo}
use Rattle.recover_fraction.specs.declared.recovery.Fraction.{Fraction}
use Rattle.recover_fraction.specs.Agreement.{KeepsAgreement}
use Rattle.lists.specs.Digits.{product_of}
use Rattle.recover_fraction.proofs.combination.agreeing_fraction.Goals as goal

-- one modulus that is the product stands for all moduli
module _ (ms xs : List ℕ) (a b x m : ℕ) (whole : m ≡ product_of ms) (kept : KeepsAgreement ms xs x) where
  into : (p : ℤ) (q : ℕ) → Agrees ms xs a b p q → AgreesModulo m x a b p q
  into p q g = subst (λ n. AgreesModulo n x a b p q) (sym whole) ((kept.same a b p q).0 g)

  out : (p : ℤ) (q : ℕ) → AgreesModulo m x a b p q → Agrees ms xs a b p q
  out p q g = (kept.same a b p q).1 (subst (λ n. AgreesModulo n x a b p q) whole g)

  agrees_by : (r : Option Fraction) → IfSome r (λ f. AgreesModulo m x a b f.top f.bottom) → IfSome r (λ f. Agrees ms xs a b f.top f.bottom)
  agrees_by None h = h
  agrees_by (Some f) h = out f.top f.bottom h

  only_by : (r : Option Fraction) → IfSome r (λ f. (p : ℤ) (q : ℕ) → AgreesModulo m x a b p q → (p ≡ f.top) × (q ≡ f.bottom))
      → IfSome r (λ f. (p : ℤ) (q : ℕ) → Agrees ms xs a b p q → (p ≡ f.top) × (q ≡ f.bottom))
  only_by None h = h
  only_by (Some f) h = λ p q g. h p q (into p q g)

pub returns-clause-agrees : goal.returns-clause-agrees
returns-clause-agrees c =
    agrees_by c.args.moduli.now c.args.residues.now c.args.a c.args.b c.garner-all.result.number c.garner-all.result.product c.garner-all.ensures.product c.garner-all.ensures.agreement
    c.recover.result c.recover.ensures.agrees

pub returns-clause-only : goal.returns-clause-only
returns-clause-only c =
    only_by c.args.moduli.now c.args.residues.now c.args.a c.args.b c.garner-all.result.number c.garner-all.result.product c.garner-all.ensures.product c.garner-all.ensures.agreement
    c.recover.result c.recover.ensures.only

pub returns-clause-none : goal.returns-clause-none
returns-clause-none c = (
  λ none p q g.
      c.recover.ensures.none.0 none p q
      (into c.args.moduli.now c.args.residues.now c.args.a c.args.b c.garner-all.result.number c.garner-all.result.product c.garner-all.ensures.product c.garner-all.ensures.agreement p q g),
  λ none.
      c.recover.ensures.none.1
      (λ p q g.
      none p q
      (out c.args.moduli.now c.args.residues.now c.args.a c.args.b c.garner-all.result.number c.garner-all.result.product c.garner-all.ensures.product c.garner-all.ensures.agreement p q g)),
)
