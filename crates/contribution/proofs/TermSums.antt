-- The sum over terms, one after another.
use Rattle.std.proofs.Common.{◌≡◌, ℕ, ◌+◌, ◌<◌, List, [], ◌∷◌, ◌++◌, length, take, get_or, map, ℤ, sym, ap, ◌∙◌}
use Rattle.std.proofs.lemmas.List.{map_more}
use Rattle.arithmetic.specs.Fractions.{Fraction, plus, sum_of_fractions}
use Rattle.arithmetic.proofs.FractionSums.{sum_of_fractions-append, plus-zero}
use Rattle.trees.specs.Decorated.{DecoratedTree}
use Rattle.residue.specs.declared.class.Term.{Term}
use Rattle.localisation.specs.Contribution.{term_factor}
use Rattle.contribution.specs.Terms.{sum_of_terms}

sum_of_fractions-push : (fs : List Fraction) (f : Fraction)
    → sum_of_fractions (fs ++ f ∷ []) ≡ plus (sum_of_fractions fs) f
sum_of_fractions-push fs f = sum_of_fractions-append fs (f ∷ []) ∙ ap (plus (sum_of_fractions fs)) (plus-zero f)

pub terms-more : (ws : List ℤ) (g : DecoratedTree) (ts : List Term) (i : ℕ) (t : Term) → i < length ts
    → t ≡ get_or ts i t
    → sum_of_terms ws g (take (i + 1) ts) ≡ plus (sum_of_terms ws g (take i ts)) (term_factor ws g t)
terms-more ws g ts i t h e =
    ap sum_of_fractions (map_more (term_factor ws g) ts i t h)
    ∙ sum_of_fractions-push (map (term_factor ws g) (take i ts)) (term_factor ws g (get_or ts i t))
    ∙ ap (λ x. plus (sum_of_terms ws g (take i ts)) (term_factor ws g x)) (sym e)
