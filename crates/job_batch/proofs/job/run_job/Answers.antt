-- At first all sums are 0, and there is room for those of any problem.
use Rattle.std.proofs.Common.{◌≡◌, ℕ, ◌*◌, ◌≤◌, length, replicate, take, sym, ap, ap₂, ◌∙◌, subst, arith}
use Rattle.std.proofs.lemmas.List.{take-replicate}
use Rattle.problem.specs.declared.problem.Problem.{Problem}
use Rattle.problem.specs.Problems.{view as problem_view}
use Rattle.problem.specs.Sums.{places_of}
use Rattle.table_sum.specs.Sums.{problem_of}
use Rattle.sum_job.proofs.AddedResidues.{at_most_64}
use Rattle.job_batch.proofs.job.run_job.Goals as goal

pub run_alone-bad-requires-clause-residues : goal.run_alone-bad-requires-clause-residues
run_alone-bad-requires-clause-residues c =
    let p : Problem = c.problem-problem.result.now in
    let count : c.len.result * c.len-2.result ≡ places_of (problem_view p) = ap₂ (λ a b. a * b) c.len.ensures c.len-2.ensures in
    let few = at_most_64 (problem_view p) p.rules in
    take-replicate (c.len.result * c.len-2.result) 64 0 (omega arith)
    ∙ ap (λ n. replicate n 0) (count ∙ ap (λ (q : Problem). places_of (problem_view q)) (sym c.of-sum.ensures.problem))
