-- What is printed of the sum of a problem.
use Rattle.std.specs.Prelude.{◌≡◌, ℕ, List, Option, is_some, if◌then◌else◌}
use Rattle.std.specs.List.{list_all}
use Rattle.recover_fraction.specs.declared.recovery.Fraction.{Fraction}
use Rattle.problem.specs.Rules.{ProblemView}
use Rattle.report.specs.Fractions.{AreFractions}
use Rattle.report.specs.Texts.{done_text}

-- 0 if each integral has a fraction, else 1
abbrev pub done_status : List (Option Fraction) → ℕ
done_status found = if list_all is_some found then 0 else 1

-- the status and the text of sums with these residues
pub record IsDoneReport (p : ProblemView) (residues : List ℕ) (status : ℕ) (text : List ℕ) : Type 0 where
  pub fractions : List (Option Fraction)
  pub are : AreFractions p residues fractions
  pub status_is : status ≡ done_status fractions
  pub text_is : text ≡ done_text p residues fractions
