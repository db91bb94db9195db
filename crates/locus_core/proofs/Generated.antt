-- The generated problem of a number: its first residues, and that its sum never pauses.
use Rattle.std.proofs.Common.{◌≡◌, ℕ, zero, suc, slice_index, ◌^◌, ◌<◌, List, [], ◌∷◌, replicate, ◌++◌, refl, sym, ap, ◌∙◌, subst, arith}
use Rattle.localisation.specs.Agreement.{modulus_at}
use Rattle.problem.specs.Rules.{ProblemView, KeepsRules}
use Rattle.problem.specs.Sums.{places_of}
use Rattle.problem_toml.specs.Generator.{generated_problem}
use Rattle.checkpoint.specs.States.{AreResidues}
use Rattle.rounds.specs.Outcomes.{IsProgress, IsEarly}
use Rattle.rounds.specs.declared.progress.Progress.{Progress}
use Rattle.locus_io.specs.Causes.{Stayed}
use Rattle.locus_core.specs.Outside.{Change, StopperState}
use Rattle.locus_core.specs.Begins.{fresh_sum, of_number}
use Rattle.locus_core.specs.Steps.{Continues, IsReportOf}
use Rattle.locus_core.proofs.Reported.{stayed, headed}

-- no sums yet
abbrev no_sums : ProblemView → List ℕ
no_sums p = replicate (places_of p) 0

-- there are two sums: one integral, modulo two moduli
two_places : (number : ℕ) → no_sums (generated_problem number) ≡ 0 ∷ 0 ∷ []
unfolding generated_problem
two_places number = refl

generated_residues : (number : ℕ) → AreResidues (generated_problem number) (0 ∷ 0 ∷ [])
unfolding generated_problem
generated_residues number = record { one_each = refl; below = below }
  where
    below : (place : ℕ) → place < 2 → slice_index (0 ∷ 0 ∷ []) place < modulus_at (1000000007 ∷ 1000000009 ∷ []) place
    below zero within = omega arith
    below (suc zero) within = omega arith
    below (suc (suc n)) within = absurd (omega arith)

pub fresh_residues : (p : ProblemView) (number : ℕ) → p ≡ generated_problem number → AreResidues p (0 ∷ 0 ∷ [])
fresh_residues p number is = subst (λ q. AreResidues q (0 ∷ 0 ∷ [])) (sym is) (generated_residues number)

pub fresh : (p : ProblemView) (number : ℕ) → p ≡ generated_problem number
    → record { problem = p; next = 0; residues = 0 ∷ 0 ∷ [] } ≡ fresh_sum (generated_problem number)
fresh p number is =
    subst (λ xs. record { problem = p; next = 0; residues = xs } ≡ fresh_sum (generated_problem number)) (two_places number)
    (λ i. record { problem = is i; next = 0; residues = no_sums (generated_problem number) })

-- what a call that runs rounds says, of the sum of a generated problem
pub soaks : (p : ProblemView) (number workers : ℕ) (stopper : Change StopperState) (progress : Progress) (status : ℕ) (text given whole : List ℕ)
    → p ≡ generated_problem number → KeepsRules p
    → IsProgress (record { problem = p; next = 0; residues = 0 ∷ 0 ∷ [] }) (2 ^ 40) workers progress
    → ¬ IsEarly (record { problem = p; next = 0; residues = 0 ∷ 0 ∷ [] }) (2 ^ 40) progress.outcome
    → Stayed stopper.before.stops stopper.after.stops stopper.before.last_stop stopper.after.last_stop
    → IsReportOf p progress.outcome status text → given ≡ text → whole ≡ (of_number number workers).heading ++ given
    → Continues (of_number number workers) stopper progress.shares status whole
soaks p number workers stopper progress status text given whole is rules progressed late kept report same written =
    let b = of_number number workers in
    let fresh_is = fresh p number is in
    record {
      outcome = progress.outcome;
      sums = record {
        rules = subst KeepsRules is rules;
        progress = subst (λ s. IsProgress s (2 ^ 40) workers progress) fresh_is progressed;
        stopped = λ early. absurd (subst (λ s. ¬ IsEarly s (2 ^ 40) progress.outcome) fresh_is late early);
        kept = λ _. stayed stopper kept;
      };
      answer = headed b progress.outcome status text whole (subst (λ q. IsReportOf q progress.outcome status text) is report)
          (written ∙ ap (λ t. b.heading ++ t) same);
    }
