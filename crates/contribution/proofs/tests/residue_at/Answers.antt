use Rattle.std.proofs.Common.{All, subst, sym}
use Rattle.std.specs.Bool.{OnTrue}
use Rattle.contribution.specs.Terms.{IsTermFor}
use Rattle.contribution.proofs.tests.residue_at.Goals as goal

pub contribution-requires-clause-terms : goal.contribution-requires-clause-terms
contribution-requires-clause-terms g c =
    subst (λ m. All (IsTermFor m) c.args.terms.now) (sym c.mark_count-marks.ensures.shape)
    (subst (λ b. OnTrue b (All (IsTermFor c.mark_count-marks.result) c.args.terms.now)) c.if-not-are_terms_for.false c.are_terms_for.ensures.enough)
