use Rattle.std.proofs.Common.{[], get_or, slice_index, subst}
use Rattle.arithmetic.specs.Fractions.{IsResidue}
use Rattle.localisation.specs.Contribution.{contribution}
use Rattle.problem.specs.declared.problem.Problem.{Problem}
use Rattle.decorated_tree.specs.Trees.{tree_view}
use Rattle.table_sum.specs.Trees.{KnowsEdges}
use Rattle.table_sum.specs.Sums.{problem_of, table_of}
use Rattle.list_job.proofs.Telling.{modulus_small, tells_residue}
use Rattle.list_job.proofs.entry.value.Goals as goal

pub returns-in-Ok-clause-value : goal.returns-in-Ok-clause-value
returns-in-Ok-clause-value c =
    let p = problem_of c.args.sum.now in
    tells_residue (slice_index p.moduli c.args.modulus) _ c.in-Ok.residue
    (modulus_small p c.args.modulus c.requires.modulus)
    (subst
    (λ g. IsResidue (slice_index p.moduli c.args.modulus) (contribution p.setup (get_or p.integrals c.args.integral []) g) c.in-Ok.residue)
    c.of-parts.ensures.tree c.in-Ok.ensures.value)

pub returns-in-Ok-clause-edges : goal.returns-in-Ok-clause-edges
returns-in-Ok-clause-edges c =
    subst (λ g. KnowsEdges c.tree_residue.new.seat (table_of c.args.sum.now) g c.args.modulus)
    c.of-parts.ensures.tree c.tree_residue.ensures.edges

pub returns-in-Ok-contribution-clause-value : goal.returns-in-Ok-contribution-clause-value
returns-in-Ok-contribution-clause-value c =
    let p = problem_of c.args.sum.now in
    tells_residue (slice_index p.moduli c.args.modulus) _ c.in-Ok-contribution.residue
    (modulus_small p c.args.modulus c.requires.modulus)
    (subst
    (λ (q : Problem). IsResidue (slice_index q.moduli c.args.modulus) (contribution q.setup (get_or q.integrals c.args.integral []) (tree_view c.args.tree.now)) c.in-Ok-contribution.residue)
    c.problem-problem.ensures c.in-Ok-contribution.ensures.value)

pub returns-in-Ok-contribution-clause-edges : goal.returns-in-Ok-contribution-clause-edges
returns-in-Ok-contribution-clause-edges c =
    subst (λ g. KnowsEdges c.tree_residue.new.seat (table_of c.args.sum.now) g c.args.modulus)
    c.of-parts.ensures.tree c.tree_residue.ensures.edges

pub returns-in-Err-contribution-clause-edges : goal.returns-in-Err-contribution-clause-edges
returns-in-Err-contribution-clause-edges c =
    subst (λ g. KnowsEdges c.tree_residue.new.seat (table_of c.args.sum.now) g c.args.modulus)
    c.of-parts.ensures.tree c.tree_residue.ensures.edges
