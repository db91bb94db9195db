-- What is printed of an outcome is its answer: the texts of reports and checkpoints, one by one.
use Rattle.std.proofs.Common.{◌≡◌, ℕ, List, ◌++◌, Option, Some, None, option_map, Result, Ok, Err, IfOk, IsSome, IfSome, refl, sym, subst, ap, ◌∙◌}
use Rattle.locus_io.specs.Causes.{Stayed}
use Rattle.problem.specs.Rules.{ProblemView, KeepsRules}
use Rattle.checkpoint.specs.States.{StateView}
use Rattle.checkpoint.specs.Texts.{text_in}
use Rattle.report.specs.Report.{IsDoneReport, done_status}
use Rattle.report.specs.Texts.{no_inverse_text}
use Rattle.report.specs.declared.report.Report.{Report}
use Rattle.lists.specs.declared.memory.NoMemory.{NoMemory}
use Rattle.rounds.specs.Outcomes.{sum_of, IsProgress, IsEarly}
use Rattle.rounds.specs.declared.progress.Progress.{Progress}
use Rattle.rounds.specs.declared.progress.Outcome.{Outcome}
use Rattle.rounds.specs.declared.progress.Outcome.TheVariants.{Done, Paused, NoInverse}
use Rattle.report.specs.Statuses.{code_of}
use Rattle.locus_core.specs.Begins.{Beginning, SumPlan, of_state}
use Rattle.locus_core.specs.Comes.{IsAnswer, done, paused, no_inverse}
use Rattle.locus_core.specs.Outside.{Change, Unchanged, StopperState, HasStopped}
use Rattle.locus_core.specs.Steps.{IsReportOf, Continues}

-- the report of sums, behind the heading
done_answer : (b : Beginning) (residues : List ℕ) (status : ℕ) (text : List ℕ) → IsDoneReport b.sum.problem residues status text
    → IsAnswer b (Done residues) status (b.heading ++ text)
done_answer b residues status text r =
    subst (λ n. IsAnswer b (Done residues) n (b.heading ++ text)) (sym r.status_is)
    (subst (λ t. IsAnswer b (Done residues) (done_status r.fractions) (b.heading ++ t)) (sym r.text_is)
    (done residues r.fractions r.are))

no_inverse_answer : (b : Beginning) (number modulus status : ℕ) (text : List ℕ) → status ≡ 4
    → text ≡ no_inverse_text b.sum.problem number modulus → IsAnswer b (NoInverse number modulus) status (b.heading ++ text)
no_inverse_answer b number modulus status text s t =
    subst (λ n. IsAnswer b (NoInverse number modulus) n (b.heading ++ text)) (sym s)
    (subst (λ x. IsAnswer b (NoInverse number modulus) 4 (b.heading ++ x)) (sym t) (no_inverse number modulus))

pub done_reported : (state : StateView) (outcome : Outcome) (p : ProblemView) (residues given : List ℕ) (r : Result Report NoMemory)
    → outcome ≡ Done residues → p ≡ state.problem → given ≡ residues → IfOk r (λ report. IsDoneReport p given (code_of report.status) report.text.items)
    → IfOk r (λ report. (plan : SumPlan) → IsAnswer (of_state state plan) outcome (code_of report.status) report.text.items)
done_reported state outcome p residues given (Err e) is same items h = tt
done_reported state outcome p residues given (Ok report) is same items h = λ plan.
    subst (λ o. IsAnswer (of_state state plan) o (code_of report.status) report.text.items) (sym is)
    (done_answer (of_state state plan) residues (code_of report.status) report.text.items
    (subst (λ xs. IsDoneReport state.problem xs (code_of report.status) report.text.items) items
    (subst (λ q. IsDoneReport q given (code_of report.status) report.text.items) same h)))

pub no_inverse_reported : (state : StateView) (outcome : Outcome) (p : ProblemView) (number modulus : ℕ) (r : Result Report NoMemory)
    → outcome ≡ NoInverse number modulus → p ≡ state.problem → IfOk r (λ report. code_of report.status ≡ 4)
    → IfOk r (λ report. report.text.items ≡ no_inverse_text p number modulus)
    → IfOk r (λ report. (plan : SumPlan) → IsAnswer (of_state state plan) outcome (code_of report.status) report.text.items)
no_inverse_reported state outcome p number modulus (Err e) is same s t = tt
no_inverse_reported state outcome p number modulus (Ok report) is same s t = λ plan.
    subst (λ o. IsAnswer (of_state state plan) o (code_of report.status) report.text.items) (sym is)
    (no_inverse_answer (of_state state plan) number modulus (code_of report.status) report.text.items s
    (t ∙ ap (λ q. no_inverse_text q number modulus) same))

pub paused_reported : (state new : StateView) (outcome : Outcome) (next : ℕ) (residues text : List ℕ) (plan : SumPlan) → outcome ≡ Paused next residues
    → new ≡ record state { next = next; residues = residues } → text ≡ text_in 2 new → IsAnswer (of_state state plan) outcome 5 text
paused_reported state new outcome next residues text plan is same written =
    subst (λ o. IsAnswer (of_state state plan) o 5 text) (sym is)
    (subst (IsAnswer (of_state state plan) (Paused next residues) 5) (sym (written ∙ ap (text_in 2) same))
    (paused state.source next residues refl))

-- the same behind a heading
pub headed : (b : Beginning) (outcome : Outcome) (status : ℕ) (text whole : List ℕ) → IsReportOf b.sum.problem outcome status text
    → whole ≡ b.heading ++ text → IsAnswer b outcome status whole
headed b (Done residues) status text whole r is = subst (IsAnswer b (Done residues) status) (sym is) (done_answer b residues status text r)
headed b (Paused next residues) status text whole r is = absurd r
headed b (NoInverse number modulus) status text whole r is =
    subst (IsAnswer b (NoInverse number modulus) status) (sym is) (no_inverse_answer b number modulus status text r.0 r.1)

-- ---- rounds

-- a stopper whose count and last name stayed is unchanged
pub stayed : (stopper : Change StopperState) → Stayed stopper.before.stops stopper.after.stops stopper.before.last_stop stopper.after.last_stop
    → Unchanged stopper
stayed stopper s = λ i. record { stops = s.count i; last_stop = s.name i }

-- what holds of the name that is given holds of its text
pub stop_named : {A : Type 0} (text : A → List ℕ) (o : Option A) (P : List ℕ → Type 0) → IsSome o × IfSome o (λ name. P (text name))
    → IsSome (option_map text o) × IfSome (option_map text o) P
stop_named text None P h = (h.0, tt)
stop_named text (Some name) P h = (refl, h.1)

-- what a call that runs rounds says, of a sum that is begun
pub goes_on : (state : StateView) (plan : SumPlan) (stopper : Change StopperState) (progress : Progress) (status : ℕ) (text : List ℕ)
    → KeepsRules state.problem → IsProgress (sum_of state) plan.budget plan.workers progress
    → (IsEarly (sum_of state) plan.budget progress.outcome → IsSome plan.stop_file × IfSome plan.stop_file (λ name. HasStopped stopper name))
    → (¬ IsEarly (sum_of state) plan.budget progress.outcome
    → Stayed stopper.before.stops stopper.after.stops stopper.before.last_stop stopper.after.last_stop)
    → IsAnswer (of_state state plan) progress.outcome status text → Continues (of_state state plan) stopper progress.shares status text
goes_on state plan stopper progress status text rules is stopped kept answer = record {
  outcome = progress.outcome;
  sums = record { rules = rules; progress = is; stopped = stopped; kept = λ late. stayed stopper (kept late) };
  answer = answer;
}
